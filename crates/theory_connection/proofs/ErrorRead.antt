-- The client reads the error that the server posted, once it has read all events.
use Rattle.std.proofs.Common.{◌≡◌, ℕ, suc, ◌<◌, ◌≤◌, ◌^◌, Bool, true, false, List, [], ◌∷◌, ◌++◌, length, drop}
use Rattle.std.proofs.Common.{inr, is_some, refl, sym, ap, subst, ◌∙◌, arith}
use Rattle.std.specs.Prelude.{codes, not, nat_le, nat_lt}
use Rattle.std.specs.declared.option.Option.{Option}
use Rattle.std.specs.declared.option.Option.TheVariants.{None, Some}
use Rattle.std.specs.declared.result.Result.{Result}
use Rattle.std.specs.declared.result.Result.TheVariants.{Ok}
use Rattle.std.proofs.lemmas.Bool.{and_parts, le-ltb}
use Rattle.std.proofs.lemmas.Bool.Decides.{nat_tests}
use Rattle.std.proofs.lemmas.List.{take-append-drop, drop_at}
use Rattle.wl_wire.specs.declared.kind.Kind.{Kind}
use Rattle.wl_wire.specs.Argument.{Argument, Obj, Uint, Str}
use Rattle.wl_wire.specs.Spelling.{Suits, IsText, canonical, spelled_len}
use Rattle.wl_wire.specs.Reading.{reading}
use Rattle.wl_wire.proofs.Canonicals.{reading-canonical, canonical-len}
use Rattle.wl_wire.proofs.Answered.{no_zero}
use Rattle.wl_sigs.specs.Side.TheVariants.{Event as event_side}
use Rattle.wl_sigs.specs.Destroys.TheVariants.{Nothing}
use Rattle.wl_sigs.specs.Tables.{Interface, signature_at}
use Rattle.wl_sigs.specs.Tables as sigs
use Rattle.wl_sigs.specs.Fixed as fixed
use Rattle.wl_sigs.specs.Valid.{Valid}
use Rattle.wl_wire.specs.declared.kind.Iface.{Iface}
use Rattle.wl_wire.specs.declared.header.Header.{Header}
use Rattle.wl_object_map.specs.declared.object.Entry.{Entry}
use Rattle.wl_object_map.specs.Objects.{look}
use Rattle.wl_message.specs.Arrived.{in_front}
use Rattle.wl_message.specs.Cut.{Whole, HasMessage}
use Rattle.wl_objects.specs.declared.error.NextError.{NextError}
use Rattle.wl_objects.specs.Reading.{Reader, forgiving_kind, forgiving, value_fault, value_or_fault, arguments_at, named_at}
use Rattle.wl_objects.specs.Writing.{message_len, spelled as spelled_values}
use Rattle.wl_objects.specs.Messages.{received, is_error}
use Rattle.wl_connection.specs.Receiving.{Found, found, found_at, found_in, header_of, reader_in}
use Rattle.wl_client.specs.Reports.{Report, Error, event_opens, needs_memory, next_answer, after_next, state_past}
use Rattle.wl_server.specs.Calls.{is_error_text}
use Rattle.theory_connection.specs.Meant.{Known, Message, live_entry}
use Rattle.theory_connection.specs.World.{World, Posted, Failing, Over, in_stage, reads_error, display_born, has_error}
use Rattle.theory_connection.specs.Pair.{PairState, ClientNext, with_client, Nexts, answered, no_memory}
use Rattle.theory_connection.specs.Pair.{no_memory_to_open}
use Rattle.theory_connection.specs.Answers.{seen_named, seen_by}
use Rattle.theory_connection.specs.Flight.{Rows, IsHeldInRows, ReadsInFlight, done, client_rows, server_rows}
use Rattle.theory_connection.specs.Stands.{StandsBy, InFlight, ClientStands, ServerStands, ErrorComes, quiet, comes, IsErrorAbout, error_message}
use Rattle.theory_connection.proofs.Flight.{held_at_client}
use Rattle.theory_connection.proofs.Channels.{pops}
use Rattle.theory_connection.proofs.TwoRanges.{row_word}
use Rattle.theory_connection.proofs.RowsAfterMessage.{there_row}
use Rattle.theory_connection.proofs.Stands.{first_read}
use Rattle.theory_connection.proofs.ReadAsMeant.{parted, report_one}
use Rattle.theory_connection.proofs.EventRead.{held_at_client as held_at}
use Rattle.theory_connection.proofs.Moves.{Moves, ends_it, goes_on, stays}
use Rattle.theory_connection.proofs.Errors.{client_does, not_over}

-- the arguments of an error
abbrev pub error_values : ℕ → Posted → List Argument
error_values id e = Obj id ∷ Uint e.code ∷ Str (Some e.text) ∷ []

-- its signature, in all valid tables
abbrev pub error_signature : sigs.MessageSignature
error_signature = fixed.message (codes "error") 1 (fixed.any_object ∷ fixed.uint ∷ fixed.string ∷ []) Nothing

of_not : (b : Bool) → not b ≡ true → b ≡ false
of_not true h = absurd (cc h)
of_not false h = refl

-- the text of an error fits
pub error_text : (text : List ℕ) → is_error_text text ≡ true → IsText text × (length text ≤ 127)
error_text text h =
    let k = and_parts (nat_le (length text) 127) _ h in
    let few : length text ≤ 127 = grind (arith, nat_tests, k.0) in
    (record { no_nul = no_zero text (of_not _ k.1); len = omega (arith, few) }, few)

-- an error is short
pub error_short : (id : ℕ) (e : Posted) → is_error_text e.text ≡ true → message_len (error_values id e) ≤ 4096
error_short id e h = let few = (error_text e.text h).1 in omega (arith, few)

read_one : (r : Reader) (place : ℕ) (kind : Kind) (ks : List Kind) (v : Argument) (rest : List ℕ) (vs : List Argument)
    → Suits (forgiving_kind r.forgives kind) v → value_fault r place kind v ≡ None
    → arguments_at r (suc place) ks rest ≡ Ok (vs, [])
    → arguments_at r place (kind ∷ ks) (canonical v ++ rest) ≡ Ok (v ∷ vs, [])
read_one r place kind ks v rest vs s g h =
    let back : drop (spelled_len v) (canonical v ++ rest) ≡ rest =
    drop_at (canonical v) rest (spelled_len v) (canonical-len v) in
    let found : value_or_fault r place kind (reading (forgiving_kind r.forgives kind) (canonical v ++ rest))
    ≡ Ok (v, spelled_len v) =
    rw (reading-canonical (forgiving_kind r.forgives kind) v rest s, value_or_fault, g) refl in
    rw (found, back, h) refl

-- the arguments of an error, as any reader reads them
pub error_arguments : (r : Reader) (id : ℕ) (e : Posted) → id < 2 ^ 32 → e.code < 2 ^ 32 → is_error_text e.text ≡ true
    → arguments_at (forgiving true r) 0 (fixed.any_object ∷ fixed.uint ∷ fixed.string ∷ [])
    (spelled_values (error_values id e)) ≡ Ok (error_values id e, [])
error_arguments r id e i c t =
    let f = forgiving true r in
    read_one f 0 fixed.any_object (fixed.uint ∷ fixed.string ∷ []) (Obj id)
    (spelled_values (Uint e.code ∷ Str (Some e.text) ∷ [])) (Uint e.code ∷ Str (Some e.text) ∷ [])
    (i, λ h. refl) refl
    (read_one f 1 fixed.uint (fixed.string ∷ []) (Uint e.code) (spelled_values (Str (Some e.text) ∷ []))
    (Str (Some e.text) ∷ []) c refl
    (read_one f 2 fixed.string [] (Str (Some e.text)) (spelled_values []) [] (error_text e.text t).0 refl refl))

-- the error as a message
abbrev pub erring : ℕ → Posted → Message Known
erring id e = record {
  target = record { id = 1; born = display_born };
  opcode = 0;
  args = Obj (Some (record { id = id; born = e.object })) ∷ Uint e.code ∷ Str (Some e.text) ∷ [];
  ends = None;
}

-- the error as any reader receives it that has wl_display
pub received_error : (tables : List Interface) → Valid tables → (r : Reader) (header : Header) (waiting : ℕ)
    (entry : Entry) (id : ℕ) (e : Posted) → r.object header.object ≡ Some entry → entry.iface ≡ display_born.iface
    → entry.version ≡ display_born.version → header.object ≡ 1 → header.opcode ≡ 0 → id < 2 ^ 32 → e.code < 2 ^ 32
    → is_error_text e.text ≡ true
    → received tables event_side r header (spelled_values (error_values id e)) waiting ≡ Ok (record {
      target = record { id = 1; birth = entry.birth };
      entry = entry;
      signature = error_signature;
      values = error_values id e;
    })
received_error tables valid r header waiting entry id e row iface version ho hp i c t =
    let there : signature_at tables 0 event_side 0 ≡ Some error_signature = rw valid.fixed_four.display refl in
    let sig : signature_at tables entry.iface.0 event_side header.opcode ≡ Some error_signature =
    ap (λ (x : Iface). signature_at tables x.0 event_side header.opcode) iface
    ∙ ap (signature_at tables 0 event_side) hp ∙ there in
    let old : nat_lt entry.version 1 ≡ false = ap (λ (n : ℕ). nat_lt n 1) version in
    let forgives : is_error event_side entry.iface header.opcode ≡ true =
    ap (λ (x : Iface). is_error event_side x header.opcode) iface ∙ ap (is_error event_side display_born.iface) hp in
    let enough : nat_lt waiting 0 ≡ false = le-ltb waiting 0 (omega arith) in
    rw (row, sig, old, forgives, error_arguments r id e i c t, enough, ho) refl

-- the error as the client finds it
abbrev pub found_error : ℕ → ℕ → Posted → Found
found_error n id e = record {
  size = n;
  opcode = 0;
  message = record {
    target = record { id = 1; birth = 0 };
    entry = live_entry display_born;
    signature = error_signature;
    values = error_values id e;
  };
}

-- an error on its way, once all events are read
pub record LastOnWay (p : PairState) (w : World) (n : ℕ) : Type 0 where
  pub error : Posted
  pub stage : w.stage ≡ Failing error
  pub mark : is_some p.ended_at ≡ true
  pub id : ℕ
  pub about : IsErrorAbout (server_rows p.server.core.view) id error
  pub finds_it : found p.client.core event_side ≡ Ok (Some (found_error n id error))
  pub seen : seen_named (named_at (reader_in p.client.core event_side) id) ≡ seen_by w.client (Some error.object)

middle_is : {test : _} {v m : Rows _} → ReadsInFlight test [] v m → m ≡ v
middle_is done = refl

module _ (p : PairState) (w : World) (asked : List (Message Known)) (s : StandsBy p w asked []) (n : ℕ)
    (whole : in_front p.client.core.inbox ≡ Whole n) where
  last_is : ErrorComes w.stage p.ended_at (server_rows p.server.core.view) s.behind → LastOnWay p w n
  last_is (quiet z m b) = absurd
      (let q = pops p.server.core.outbox p.client.core.inbox s.behind n s.events.in_boxes whole in cc (q.is, b))
  last_is (comes e id z m b a) =
      let tables = p.client.core.tables in
      let x : Known = record { id = id; born = e.object } in
      let vs = error_values id e in
      let inbox = p.client.core.inbox in
      let q = first_read p.server.core.outbox inbox (error_message id e) [] n
      (subst (InFlight p.server.core.outbox inbox) b s.events.in_boxes) whole in
      let row = there_row p.server.core.view x a.there in
      let word = row_word p.server.core.view id row.entry s.server.sound row.there in
      let short = error_short id e a.text in
      let parts = parted inbox.bytes (drop n inbox.bytes) 1 0 vs
      (sym (take-append-drop n inbox.bytes) ∙ ap (λ (l : List ℕ). l ++ drop n inbox.bytes) q.bytes)
      (omega arith) (omega arith) (omega (arith, short)) in
      let held : IsHeldInRows (client_rows p.client.core.view) x =
      subst (λ (v : Rows _). IsHeldInRows v x) (middle_is s.meet.reads) (held_at_client x s.meet.tied a.there) in
      let at = held_at p.client.core.view w.client s.client.sets x word.0 held in
      let valid = subst Valid (sym s.terms.same_tables) s.terms.valid in
      let read = received_error tables valid (reader_in p.client.core event_side) (header_of inbox.bytes)
      (length inbox.tokens) (live_entry display_born) id e
      (ap (look p.client.core.view) parts.object ∙ s.client.display) refl refl parts.object parts.opcode_is word.1
      a.code a.text in
      record {
        error = e;
        stage = z;
        mark = m;
        id = id;
        about = a;
        finds_it = ap (found_at p.client.core event_side) whole
            ∙ ap (λ (l : List ℕ). found_in n (header_of inbox.bytes).opcode
            (received tables event_side (reader_in p.client.core event_side) (header_of inbox.bytes) l
            (length inbox.tokens))) (ap (drop 8) q.bytes)
            ∙ ap (found_in n (header_of inbox.bytes).opcode) read
            ∙ ap (λ (o : ℕ). Ok (Some (record {
              size = n;
              opcode = o;
              message = (found_error n id e).message;
            }))) parts.opcode_is;
        seen = cc (report_one tables event_side p.client.core.view w.client (Obj (Some x)) [] [] at);
      }

  pub last_on_way : LastOnWay p w n
  last_on_way = last_is s.error

-- ---- the move

-- the result of a read that finds the error
pub record ErrorAnswer (p : PairState) (n id : ℕ) (e : Posted) : Type 0 where
  pub answer : next_answer p.client
      ≡ Ok (Some (Error id (named_at (reader_in p.client.core event_side) id) e.code e.text))
  pub leaves : after_next p.client ≡ state_past p.client (found_error n id e)
  pub opens_none : event_opens p.client.core (found p.client.core event_side) ≡ false

pub error_answer : (p : PairState) (n id : ℕ) (e : Posted) → p.client.core.failed ≡ false
    → found p.client.core event_side ≡ Ok (Some (found_error n id e)) → ErrorAnswer p n id e
error_answer p n id e l r = record {
  answer = rw (l, r) refl;
  leaves = rw (l, r) refl;
  opens_none = ap (event_opens p.client.core) r;
}

keeps_error : (p : PairState) (w : World) (asked : List (Message Known)) (s : StandsBy p w asked []) (n : ℕ)
    → in_front p.client.core.inbox ≡ Whole n → (i : LastOnWay p w n)
    → (reply : Result (Option Report) NextError) (p' : PairState)
    → Nexts needs_memory (event_opens p.client.core (found p.client.core event_side)) (next_answer p.client) p
    (with_client p (after_next p.client)) reply p'
    → Nexts needs_memory false
    (Ok (Some (Error i.id (named_at (reader_in p.client.core event_side) i.id) i.error.code i.error.text))) p
    (with_client p (state_past p.client (found_error n i.id i.error))) reply p'
    → Moves p w asked [] ClientNext (ClientNext reply) p'
keeps_error p w asked s n whole i reply p' d answered = record {
  world = in_stage w (Over i.error);
  answers = client_does (not_over s) tt d (inr (record {
    waits = subst HasMessage (sym whole) tt;
    error = i.error;
    steps = reads_error i.error i.stage s.events.in_world;
    reports = (i.seen, refl, refl);
  }));
  outcome = ends_it asked (s.server.lives ∙ ap has_error i.stage) (record {
    error = i.error;
    stage = refl;
    mark = i.mark;
    client_failed = refl;
    server_failed = s.server.lives ∙ ap has_error i.stage;
    client = subst (λ (b : Bool). ClientStands p.client.core.view b w.births w.client) s.client.lives s.client;
    server = subst (λ (b : Bool). ServerStands p.server.core.view p.server.core.failed b w.server_births w.server)
        (ap has_error i.stage) s.server;
    requests = s.requests;
    meet = s.meet;
  });
}
keeps_error p w asked s n whole i reply p' d (no_memory_to_open q h) = absurd (cc h)
keeps_error p w asked s n whole i reply p' d (no_memory q h) = record {
  world = w;
  answers = client_does (not_over s) tt d (inr (record {
    waits = subst HasMessage (sym whole) tt;
    error = i.error;
    comes = i.stage;
    first = s.events.in_world;
    same = refl;
  }));
  outcome = goes_on asked [] s stays;
}

-- after the client has found the error the pair represents the next world
pub error_keeps : (p : PairState) (w : World) (asked : List (Message Known)) (s : StandsBy p w asked []) (n : ℕ)
    → in_front p.client.core.inbox ≡ Whole n
    → (reply : Result (Option Report) NextError) (p' : PairState)
    → Nexts needs_memory (event_opens p.client.core (found p.client.core event_side)) (next_answer p.client) p
    (with_client p (after_next p.client)) reply p'
    → Moves p w asked [] ClientNext (ClientNext reply) p'
error_keeps p w asked s n whole reply p' d =
    let i = last_on_way p w asked s n whole in
    let a = error_answer p n i.id i.error s.client.lives i.finds_it in
    keeps_error p w asked s n whole i reply p' d
    (subst (λ b. Nexts needs_memory b
    (Ok (Some (Error i.id (named_at (reader_in p.client.core event_side) i.id) i.error.code i.error.text))) p
    (with_client p (state_past p.client (found_error n i.id i.error))) reply p') a.opens_none
    (subst (λ st. Nexts needs_memory (event_opens p.client.core (found p.client.core event_side))
    (Ok (Some (Error i.id (named_at (reader_in p.client.core event_side) i.id) i.error.code i.error.text))) p
    (with_client p st) reply p') a.leaves
    (subst (λ x. Nexts needs_memory (event_opens p.client.core (found p.client.core event_side)) x p
    (with_client p (after_next p.client)) reply p') a.answer d)))
