-- The client reads the wl_display.error with which a session ends.
use Rattle.std.proofs.Common.{◌≡◌, ℕ, ◌+◌, ◌-◌, ◌<◌, Bool, true, false, List, [], ◌∷◌, take, drop, refl, sym, ap, subst}
use Rattle.std.proofs.Common.{◌∙◌, arith}
use Rattle.std.specs.Prelude.{codes, nat_eq, nat_lt}
use Rattle.std.specs.declared.option.Option.TheVariants.{None, Some}
use Rattle.std.specs.declared.result.Result.TheVariants.{Ok}
use Rattle.std.proofs.lemmas.Bool.{and_parts, eqb-true, le-ltb, ltb-false}
use Rattle.std.proofs.lemmas.List.Elements.{All-drop, All-take}
use Rattle.wl_wire.specs.declared.kind.Kind.{Kind}
use Rattle.wl_wire.specs.declared.kind.Kind.TheVariants as kinds
use Rattle.wl_wire.specs.Argument.{Argument, Array, Fd, Fixed, Int, Obj, Str, Uint}
use Rattle.wl_wire.specs.Spelling.{Suits}
use Rattle.wl_wire.specs.Word.{header_at}
use Rattle.wl_wire.proofs.Canonicals.{spelled-suits}
use Rattle.wl_sigs.specs.Side.TheVariants.{Event}
use Rattle.wl_sigs.specs.Destroys.TheVariants.{Nothing}
use Rattle.wl_sigs.specs.Fixed as fixed
use Rattle.wl_sigs.specs.Tables.{Interface, MessageSignature, descriptors, signature_at}
use Rattle.wl_sigs.specs.Valid.{Valid}
use Rattle.wl_object_map.specs.declared.object.Object.{Object}
use Rattle.wl_object_map.specs.Objects.{Objects, look}
use Rattle.wl_objects.specs.Messages.{is_error, reader_of}
use Rattle.wl_objects.specs.Reading.{Reader, arguments_at, forgiving, forgiving_kind, value_fault}
use Rattle.wl_objects.specs.Spelling.{MeetsKinds}
use Rattle.wl_objects.specs.Spelling as spelling
use Rattle.wl_objects.proofs.ArgumentsMeet.{meets-read, met}
use Rattle.wl_client.specs.declared.globals.Global.{Global}
use Rattle.wl_recording.specs.declared.piece.Direction.TheVariants.{ToClient}
use Rattle.wl_check.specs.Changes.{Call}
use Rattle.wl_check.specs.Rules.{reader_by}
use Rattle.wl_check.specs.Session.{Judged}
use Rattle.theory_connection.specs.Meant.{Born, Known, Message}
use Rattle.theory_connection.specs.World.{Each, Row}
use Rattle.theory_connection.specs.Flight.{IsHeldInRows, ReadsInFlight, Rows, client_rows, done}
use Rattle.theory_connection.proofs.RowsAfterMessage.{held_row}
use Rattle.theory_recording.specs.Follows.{birth_places, knowledge}
use Rattle.theory_peers.specs.AcceptedRequest.{known_by_place}
use Rattle.theory_peers.specs.ErrorAtClient.{IsAcceptedError, IsErrorRead}
use Rattle.theory_peers.specs.FollowsClient.{FollowsClient}
use Rattle.theory_peers.proofs.BirthsByPlace.{number_found}
use Rattle.theory_peers.proofs.EventArguments.{held_by_place}
use Rattle.theory_peers.proofs.EventBeforeRequests.{held_leads}
use Rattle.theory_peers.proofs.JudgedEvents.{event_judged_as}

abbrev the_error : MessageSignature
the_error = fixed.message (codes "error") 1 (fixed.any_object ∷ fixed.uint ∷ fixed.string ∷ []) Nothing

-- ---- readers that forgive read alike what makes no object

abbrev MakesNoObject : Kind → Type 0
MakesNoObject (kinds.New iface) = ⊥
MakesNoObject (kinds.NewByServer iface) = ⊥
MakesNoObject kind = Unit {0}

module _ (r : Reader) where
  no_fault : (place : ℕ) (kind : Kind) (value : Argument) → Suits (forgiving_kind true kind) value
      → MakesNoObject kind → value_fault (forgiving true r) place kind value ≡ None
  no_fault place (kinds.New iface) value s n = absurd n
  no_fault place (kinds.NewByServer iface) value s n = absurd n
  no_fault place kinds.Int (Int z) s n = refl
  no_fault place kinds.Uint (Uint z) s n = refl
  no_fault place kinds.Fixed (Fixed z) s n = refl
  no_fault place (kinds.Str null) (Str z) s n = refl
  no_fault place (kinds.Obj null iface) (Obj id) s n = refl
  no_fault place kinds.Array (Array z) s n = refl
  no_fault place kinds.Fd (Fd z) s n = refl
  no_fault place _ _ s n = absurd s

  meets_too : (other : Reader) {place : ℕ} {ks : List Kind} {bytes : List ℕ} {values : List Argument} {rest : List ℕ}
      → MeetsKinds (forgiving true other) place ks bytes values rest → Each MakesNoObject ks
      → MeetsKinds (forgiving true r) place ks bytes values rest
  meets_too other spelling.none n = spelling.none
  meets_too other (spelling.more {place = place} {kind = kind} {value = value} s f m e) n =
      spelling.more s (no_fault place kind value (spelled-suits s) n.0) (meets_too other m n.1) e

-- ---- the client's rows, once it has read all events

read_none : {test : Born → Bool} {v w : Rows Row} → ReadsInFlight test [] v w → w ≡ v
read_none done = refl

pub error_read : (limit : ℕ) (tables : List Interface) (e : List Judged) (asked : List (Message Known)) (view : Objects)
    (remembered : List Global) (call : Call) (waiting : ℕ) → Valid tables
    → FollowsClient tables e asked [] (client_rows view) remembered → (c : IsAcceptedError limit tables e call)
    → IsErrorRead tables view call (header_at (drop c.place c.stream))
    (take (c.size - 8) (drop (c.place + 8) c.stream)) waiting
error_read limit tables e asked view remembered call waiting v f c =
    let k = knowledge tables e in
    let j = event_judged_as limit tables k c.stream c.place c.size c.tokens call c.is in
    let r = j.received in
    let header = header_at (drop c.place c.stream) in
    let body = take (c.size - 8) (drop (c.place + 8) c.stream) in
    let ends : is_error Event r.entry.iface header.opcode ≡ true =
    ap (λ (x : Call). is_error Event x.received.entry.iface x.opcode) (sym j.call_is) ∙ c.ends in
    let parts = and_parts (nat_eq r.entry.iface.0 0) (nat_eq header.opcode 0) ends in
    let iface = eqb-true r.entry.iface.0 0 parts.0 in
    let opcode = eqb-true header.opcode 0 parts.1 in
    let own : signature_at tables 0 Event 0 ≡ Some the_error = rw v.fixed_four.display refl in
    let both : Some r.signature ≡ Some the_error =
    sym j.read.there ∙ (λ i. signature_at tables (iface i) Event (opcode i)) ∙ own in
    let same : r.signature ≡ the_error = cc both in
    let arguments = ap (λ (b : Bool). arguments_at (forgiving b (reader_by tables k ToClient)) 0 r.signature.kinds body)
    (sym ends) ∙ j.read.arguments in
    let meets = met (forgiving true (reader_by tables k ToClient)) 0 r.signature.kinds body r.values []
    (All-take (λ (b : ℕ). b < 256) (c.size - 8) (drop (c.place + 8) c.stream)
    (All-drop (λ (b : ℕ). b < 256) (c.place + 8) c.stream c.bytes)) arguments in
    let old_kinds : Each MakesNoObject r.signature.kinds =
    subst (λ (s : MessageSignature). Each MakesNoObject s.kinds) (sym same) (tt, (tt, (tt, tt))) in
    let args : arguments_at (forgiving true (reader_of tables Event view)) 0 r.signature.kinds body ≡ Ok (r.values, []) =
    meets-read (meets_too (reader_of tables Event view) (reader_by tables k ToClient) meets old_kinds) in
    let x = known_by_place (birth_places tables e) header.object r.entry in
    let here = held_by_place k (birth_places tables e) f.here f.known_as (number_found tables e) header.object r.entry
    j.read.held in
    let held : IsHeldInRows (client_rows view) x =
    subst (λ (w : Rows Row). IsHeldInRows w x) (read_none f.joins.reads) (held_leads x f.joins.leads here) in
    let t = held_row view x held in
    let iface_is = ap (λ (b : Born). b.iface) t.same in
    let version = ap (λ (b : Born). b.version) t.same in
    let sig : signature_at tables t.entry.iface.0 Event header.opcode ≡ Some r.signature =
    ap (λ (b : Born). signature_at tables b.iface.0 Event header.opcode) t.same ∙ j.read.there in
    let goes : is_error Event t.entry.iface header.opcode ≡ true =
    ap (λ (b : Born). is_error Event b.iface header.opcode) t.same ∙ ends in
    let least = ltb-false r.entry.version r.signature.since j.read.old_enough in
    let old : nat_lt t.entry.version r.signature.since ≡ false =
    le-ltb t.entry.version r.signature.since (omega (arith, least, version)) in
    let none : descriptors r.signature.kinds ≡ 0 = ap (λ (s : MessageSignature). descriptors s.kinds) same in
    let enough : nat_lt waiting (descriptors r.signature.kinds) ≡ false =
    le-ltb waiting (descriptors r.signature.kinds) (omega (arith, none)) in
    let target : r.target.id ≡ header.object = ap (λ (o : Object). o.id) j.read.target in
    let there : look view header.object ≡ Some t.entry = t.there in
    let row : (reader_of tables Event view).object header.object ≡ Some t.entry = there in
    subst (λ (x : Call). IsErrorRead tables view x header body waiting) (sym j.call_is) (record {
      entry = t.entry;
      there = ap (look view) target ∙ there;
      is = rw (row, sig, old, goes, args, enough, target) refl;
    })
