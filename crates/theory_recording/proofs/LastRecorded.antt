-- After an error was posted, what the server's outbox still gives is recorded to the end.
use Rattle.std.proofs.Common.{◌≡◌, ◌⊎◌, inl, inr, ℕ, zero, suc, ◌+◌, ◌-◌, ◌≤◌, ◌^◌, ◌<◌, Bool, true, false, cond}
use Rattle.std.proofs.Common.{List, [], ◌∷◌, ◌++◌, length, length-append, map, take, drop, nat_lt, slice_get}
use Rattle.std.proofs.Common.{refl, sym, ap, subst, ◌∙◌, arith}
use Rattle.std.proofs.lemmas.List.{append-nil, append_assoc, length-take}
use Rattle.std.specs.declared.option.Option.{Option}
use Rattle.std.specs.declared.option.Option.TheVariants.{None, Some}
use Rattle.std.specs.declared.result.Result.TheVariants.{Ok, Err}
use Rattle.wl_wire.specs.Word.{header_at}
use Rattle.wl_sigs.specs.Tables.{Interface}
use Rattle.wl_sigs.specs.Valid.{Valid}
use Rattle.wl_message.specs.Cut.{IsMessage, is_size}
use Rattle.wl_message.specs.Arrived.{Arrived, with_more}
use Rattle.wl_message.specs.Outgoing as boxes
use Rattle.wl_message.specs.Outgoing.{Outgoing, waiting_bytes, waiting_tokens, newly_begun, all_tokens, after_taking}
use Rattle.wl_message.proofs.Fronts.{is_size-true}
use Rattle.wl_object_map.specs.declared.object.Object.{Object}
use Rattle.wl_objects.specs.declared.error.Fault.{Fault}
use Rattle.wl_objects.specs.declared.error.Fault.TheVariants.{BadSize}
use Rattle.wl_client.specs.declared.globals.Global.{Global as Remembered}
use Rattle.wl_server.specs.State.{Global}
use Rattle.wl_server.specs.Calls.{is_error_text}
use Rattle.wl_recording.specs.declared.piece.Direction.{Direction}
use Rattle.wl_recording.specs.declared.piece.Direction.TheVariants.{ToClient}
use Rattle.wl_recording.specs.Piece.{Piece, passed}
use Rattle.wl_check.specs.Merged.{span, framed, stream_of, piece_tokens}
use Rattle.wl_check.specs.Changes.{Call}
use Rattle.wl_check.specs.Rules.{reader_by, called, judged_message}
use Rattle.wl_check.specs.Session.{Judged, IsLawful, session_of, examined, fault_of}
use Rattle.wl_check.proofs.LongerRecording.{behind_one}
use Rattle.wl_check.proofs.PiecesOfCarry.{carry_brings}
use Rattle.theory_connection.specs.Meant.{Born, Known, Message, Coming, spelled_coming}
use Rattle.theory_connection.specs.World.{World, Row, Posted, Open, Each, display_born, has_error}
use Rattle.theory_connection.specs.Pair.{PairState, after_post}
use Rattle.theory_connection.specs.Flight.{Rows, client_rows, server_rows}
use Rattle.theory_connection.specs.Stands.{StandsBy, InFlight, ComesFitly, ErrorComes, quiet, comes, error_message}
use Rattle.theory_connection.proofs.WholeInFlight.{each_rest}
use Rattle.theory_connection.proofs.Channels.{carried}
use Rattle.theory_connection.proofs.Carries.{begun_few}
use Rattle.theory_connection.proofs.ReadAsMeant.{parted}
use Rattle.theory_connection.proofs.RowsAfterMessage.{there_row}
use Rattle.theory_connection.proofs.TwoRanges.{row_word}
use Rattle.theory_connection.proofs.ErrorRead.{error_values, error_signature, error_short, erring, received_error}
use Rattle.theory_recording.specs.Recorded.{Recorded}
use Rattle.theory_recording.specs.Follows.{Follows, AllGoOn, knowledge, birth_places}
use Rattle.theory_recording.specs.Linked.{LinkedBy, RecordsToEnd, GivesInPieces, nothing, piece, judgements, pair_limit}
use Rattle.theory_recording.proofs.CalledAsMeant.{One, other_taken}
use Rattle.theory_recording.proofs.CheckerOfRows.{held_known}
use Rattle.theory_recording.proofs.JudgedAsMeant.{body_is}
use Rattle.theory_recording.proofs.RecordedEvent.{Whereabouts, display_held}
use Rattle.theory_recording.proofs.CompletedMessages.{KeepsOne}
use Rattle.theory_recording.proofs.RecordedCarry.{carry_recorded}
use Rattle.theory_recording.proofs.LinkedCarry.{one_with, Telling, telling_one, whereabouts}

-- ---- what is on the way, with the error behind it

abbrev Last : Type 0
Last = Coming Known ⊎ boxes.QueuedMessage

abbrev sent_last : Last → boxes.QueuedMessage
sent_last (inl c) = spelled_coming c
sent_last (inr m) = m

abbrev events_alone : List (Coming Known) → List Last
events_alone [] = []
events_alone (c ∷ cs) = inl c ∷ events_alone cs

abbrev with_error : List (Coming Known) → boxes.QueuedMessage → List Last
with_error [] m = inr m ∷ []
with_error (c ∷ cs) m = inl c ∷ with_error cs m

first_is : {X : Type 0} (x y : X) (xs ys : List X) → x ∷ xs ≡ y ∷ ys → x ≡ y
first_is x y xs ys e = cc e

rest_is : {X : Type 0} (x y : X) (xs ys : List X) → x ∷ xs ≡ y ∷ ys → xs ≡ ys
rest_is x y xs ys e = cc e

events_more : (cs : List (Coming Known)) (c : Coming Known) → events_alone (cs ++ c ∷ []) ≡ events_alone cs ++ inl c ∷ []
events_more [] c = refl
events_more (x ∷ cs) c = ap (λ (l : List Last). inl x ∷ l) (events_more cs c)

sent_events : (cs : List (Coming Known)) → map sent_last (events_alone cs) ≡ map spelled_coming cs
sent_events [] = refl
sent_events (c ∷ cs) = ap (λ (l : List boxes.QueuedMessage). spelled_coming c ∷ l) (sent_events cs)

both_events : (xs ys : List (Coming Known)) (m : boxes.QueuedMessage)
    → map sent_last (events_alone xs ++ with_error ys m) ≡ map spelled_coming (xs ++ ys) ++ m ∷ []
both_events [] [] m = refl
both_events [] (y ∷ ys) m = ap (λ (l : List boxes.QueuedMessage). spelled_coming y ∷ l) (both_events [] ys m)
both_events (x ∷ xs) ys m = ap (λ (l : List boxes.QueuedMessage). spelled_coming x ∷ l) (both_events xs ys m)

-- ---- a session that ends with an error

-- the last message keeps all rules, and the session went on after each message before it
record EndsWithError (e : List Judged) : Type 0 where
  before : List Judged
  call : Call
  is : e ≡ before ++ Ok call ∷ []
  passed : AllGoOn before

no_fault : (ms : List Judged) (call : Call) → AllGoOn ms → (k : ℕ)
    → fault_of (slice_get (ms ++ Ok call ∷ []) k) ≡ None
no_fault [] call a zero = refl
no_fault [] call a (suc k) = refl
no_fault (m ∷ ms) call a zero = ap (λ (j : Judged). fault_of (Some j)) (a zero m refl).is
no_fault (m ∷ ms) call a (suc k) = no_fault ms call (λ i. a (suc i)) k

no_fault_yet : (ms : List Judged) → AllGoOn ms → (k : ℕ) → fault_of (slice_get ms k) ≡ None
no_fault_yet [] a k = refl
no_fault_yet (m ∷ ms) a zero = ap (λ (j : Judged). fault_of (Some j)) (a zero m refl).is
no_fault_yet (m ∷ ms) a (suc k) = no_fault_yet ms (λ i. a (suc i)) k

if_none : (b : Bool) (o : Option Fault) → o ≡ None → cond b o None ≡ None
if_none true o e = e
if_none false o e = refl

-- ---- one more message

module _ (limit : ℕ) (tables : List Interface) (asked_later : List (Message Known)) (client : Rows Row)
    (remembered : List Remembered) (valid : Valid tables) (there : client.rows 1 ≡ Some (Open display_born))
    (id : ℕ) (x : Posted) (word : id < 2 ^ 32) (code : x.code < 2 ^ 32) (fits : is_error_text x.text ≡ true) where
  -- the error keeps all rules, and ends the session
  error_one : (e : List Judged) (seen : List (Coming Known)) (stream more : List ℕ) (t p : ℕ)
      → Follows tables e asked_later seen client remembered
      → IsMessage limit (error_message id x).bytes → drop p stream ≡ (error_message id x).bytes ++ more
      → (knowledge tables e).taken ToClient + 0 ≤ t
      → One limit tables ToClient stream t p (error_message id x) e EndsWithError
  error_one e seen stream more t p f whole bytes enough =
      let k = knowledge tables e in
      let m = erring id x in
      let vs = error_values id x in
      let n = length (error_message id x).bytes in
      let o = held_known tables k (birth_places tables e) f.here m.target f.known_as
      (display_held tables e asked_later seen client remembered f valid there) in
      let call : Call = record {
        direction = ToClient;
        opcode = 0;
        received = record {
          target = record { id = 1; birth = o.entry.birth };
          entry = o.entry;
          signature = error_signature;
          values = vs;
        };
      } in
      let size : is_size limit n ≡ true = is_size-true limit n whole.size in
      let header = header_at (drop p stream) in
      let short = error_short id x fits in
      let q = parted (drop p stream) more 1 0 vs bytes (omega arith) (omega arith) (omega (arith, short)) in
      let read = received_error tables valid (reader_by tables k ToClient) header _ o.entry id x
      (ap (reader_by tables k ToClient).object q.object ∙ o.there) o.iface o.version q.object q.opcode_is word code fits in
      let whole_one = judged_message tables k (framed ToClient t (span p n)) header in
      record {
        call = call;
        is = ap (λ (b : Bool). cond b (whole_one (take (n - 8) (drop (p + 8) stream))) (Err BadSize)) size
            ∙ ap whole_one (body_is m stream more p bytes)
            ∙ ap (called tables k ToClient header.opcode) read
            ∙ ap (λ (opcode : ℕ). called tables k ToClient opcode (Ok call.received)) q.opcode_is;
        own = (behind_one tables e call).taken_is ToClient;
        other = λ y apart. other_taken tables e call y apart;
        next = record { before = e; call = call; is = refl; passed = f.passed };
      }

  module _ (given : List Global) (asked_seen : List (Message Known)) (told : List (Coming Known)) (server : Rows Born)
      (w : Whereabouts tables asked_seen asked_later told client server) where
    -- what is recorded, and what is not yet
    data Going (e : List Judged) (seen later : List Last) : Type 0 where
      coming : (s l : List (Coming Known)) → seen ≡ events_alone s → later ≡ with_error l (error_message id x)
          → Telling tables given asked_later told client remembered e s l → Going e seen later
      over : later ≡ [] → EndsWithError e → Going e seen later

    last_one : (streams : Direction → List ℕ) (t : ℕ) → KeepsOne sent_last limit tables ToClient streams t Going
    last_one streams t e seen later m p more f whole at enough = by_going f
      where
        Aim : Last → List Last → Type 0
        Aim a rest = One limit tables ToClient (streams ToClient) t p (sent_last a) e
            (λ e'. Going e' (seen ++ a ∷ []) rest)

        by_going : Going e seen (m ∷ later) → Aim m later
        by_going (over l h) = absurd (cc l)
        by_going (coming s [] es el g) =
            let first = first_is m (inr (error_message id x)) later [] el in
            let none = rest_is m (inr (error_message id x)) later [] el in
            let one = error_one e s (streams ToClient) more t p g.0
            (subst (λ (a : Last). IsMessage limit (sent_last a).bytes) first whole)
            (subst (λ (a : Last). drop p (streams ToClient) ≡ (sent_last a).bytes ++ more) first at)
            (subst (λ (a : Last). (knowledge tables e).taken ToClient + length (sent_last a).tokens ≤ t) first enough) in
            subst (λ (a : Last). Aim a later) (sym first)
            (one_with EndsWithError
            (λ e'. Going e' (seen ++ inr (error_message id x) ∷ []) later)
            (λ e' h. over none h) one)
        by_going (coming s (c ∷ l) es el g) =
            let first = first_is m (inl c) later (with_error l (error_message id x)) el in
            let rest = rest_is m (inl c) later (with_error l (error_message id x)) el in
            let one = telling_one limit tables given asked_seen asked_later told client server remembered streams t
            valid w e s l c p more g
            (subst (λ (a : Last). IsMessage limit (sent_last a).bytes) first whole)
            (subst (λ (a : Last). drop p (streams ToClient) ≡ (sent_last a).bytes ++ more) first at)
            (subst (λ (a : Last). (knowledge tables e).taken ToClient + length (sent_last a).tokens ≤ t) first enough) in
            subst (λ (a : Last). Aim a later) (sym first)
            (one_with (λ e'. Telling tables given asked_later told client remembered e' (s ++ c ∷ []) l)
            (λ e'. Going e' (seen ++ inl c ∷ []) later)
            (λ e' h. coming (s ++ c ∷ []) l
            (ap (λ (y : List Last). y ++ inl c ∷ []) es ∙ sym (events_more s c)) rest h) one)

    lawful_so_far : (pieces : List Piece) (seen later : List Last) → Going (judgements limit tables pieces) seen later
        → IsLawful tables (session_of limit pieces)
    lawful_so_far pieces seen later (coming s l es el g) k =
        if_none (nat_lt k (examined (judgements limit tables pieces))) _
        (no_fault_yet (judgements limit tables pieces) g.0.passed k)
    lawful_so_far pieces seen later (over l h) k =
        if_none (nat_lt k (examined (judgements limit tables pieces))) _
        (ap (λ (ms : List Judged). fault_of (slice_get ms k)) h.is ∙ no_fault h.before h.call h.passed k)

    -- whatever is recorded of what the outbox gives, the recording is lawful
    lawful_on : (from : Outgoing) (others : List Piece) → GivesInPieces from others → (pieces : List Piece)
        (inbox : Arrived) (seen later : List Last)
        → Recorded limit ToClient pieces inbox ((knowledge tables (judgements limit tables pieces)).taken ToClient)
        (map sent_last seen)
        → Going (judgements limit tables pieces) seen later → InFlight from inbox (map sent_last (seen ++ later))
        → IsLawful tables (session_of limit (pieces ++ others))
    lawful_on from _ nothing pieces inbox seen later r g flight =
        subst (λ (l : List Piece). IsLawful tables (session_of limit l)) (sym (append-nil pieces))
        (lawful_so_far pieces seen later g)
    lawful_on from _ (piece {others = others} n there gives) pieces inbox seen later r g flight =
        let bytes = take n (waiting_bytes from) in
        let count = length (all_tokens (newly_begun from n)) in
        let tokens = take count (waiting_tokens from) in
        let few = begun_few from n in
        let now = with_more inbox bytes tokens in
        let qs = pieces ++ passed ToClient bytes count in
        let next_flight = carried from inbox (map sent_last (seen ++ later)) n flight there in
        let c = carry_recorded sent_last limit tables ToClient pieces qs bytes count Going (after_taking from n) inbox
        now seen later (carry_brings limit tables ToClient pieces bytes count)
        (last_one (λ y. stream_of y qs) (piece_tokens ToClient pieces + count)) r g next_flight refl
        (omega (arith, few, length-append inbox.tokens tokens, length-take count (waiting_tokens from))) refl in
        let all : seen ++ later ≡ (seen ++ c.fresh) ++ c.still =
        ap (λ (l : List Last). seen ++ l) c.later_is ∙ sym (append_assoc seen c.fresh c.still) in
        subst (λ (l : List Piece). IsLawful tables (session_of limit l))
        (append_assoc pieces (passed ToClient bytes count) others)
        (lawful_on (after_taking from n) others gives qs now (seen ++ c.fresh) c.still c.own c.next
        (subst (λ (l : List Last). InFlight (after_taking from n) now (map sent_last l)) all next_flight))

-- ---- the post

post_on : (p : PairState) (w w' : World) (asked : List (Message Known)) (told : List (Coming Known))
    (object : Object) (code : ℕ) (text : List ℕ)
    → LinkedBy p w asked told → (s : StandsBy (after_post p object code text) w' asked told)
    → ErrorComes w'.stage (after_post p object code text).ended_at (server_rows p.server.core.view) s.behind
    → (more : List Piece) → GivesInPieces (after_post p object code text).server.core.outbox more
    → IsLawful p.server.core.tables (session_of (pair_limit p) (p.recording ++ more))
post_on p w w' asked told object code text l s (quiet z m b) more g =
    absurd (let f = s.server.lives in let n = ap has_error z in cc (f, n))
post_on p w w' asked told object code text l s (comes e id z m b a) more g =
    let tables = p.server.core.tables in
    let seen = l.events.seen in
    let later = l.events.later in
    let error = error_message id e in
    let from = (after_post p object code text).server.core.outbox in
    let inbox = p.client.core.inbox in
    let where_all = whereabouts p w asked told l in
    let row = there_row p.server.core.view (record { id = id; born = e.object }) a.there in
    let word = (row_word p.server.core.view id row.entry l.stands.server.sound row.there).1 in
    let fits = each_rest (ComesFitly tables p.server.globals) seen later
    (subst (Each (ComesFitly tables p.server.globals)) l.events.is l.stands.events.fit) in
    let flight = subst (InFlight from inbox)
    (ap (λ (x : List boxes.QueuedMessage). map spelled_coming told ++ x) b
    ∙ ap (λ (x : List (Coming Known)). map spelled_coming x ++ error ∷ []) l.events.is
    ∙ sym (both_events seen later error)) s.events.in_boxes in
    lawful_on (pair_limit p) tables l.requests.later (client_rows p.client.core.view) p.client.globals
    l.stands.terms.valid where_all.display id e word a.code a.text p.server.globals l.requests.seen told
    (server_rows p.server.core.view) where_all from more g p.recording inbox (events_alone seen)
    (with_error later error)
    (subst (Recorded (pair_limit p) ToClient p.recording inbox ((knowledge tables (judgements (pair_limit p) tables
    p.recording)).taken ToClient)) (sym (sent_events seen)) l.events.recorded)
    (coming seen later refl refl (l.follows, l.events.is, fits)) flight

-- after an error is posted, all that is recorded is lawful, to the end
pub post_records : (p : PairState) (w w' : World) (asked : List (Message Known)) (told : List (Coming Known))
    (object : Object) (code : ℕ) (text : List ℕ)
    → LinkedBy p w asked told → StandsBy (after_post p object code text) w' asked told
    → RecordsToEnd (after_post p object code text)
post_records p w w' asked told object code text l s =
    record { failed = refl; lawful = post_on p w w' asked told object code text l s s.error }
