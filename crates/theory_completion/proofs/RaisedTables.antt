-- Tables of which only versions are raised judge as the tables do, if no bind is newer than these.
use Rattle.std.proofs.Common.{◌≡◌, ℕ, zero, suc, ◌+◌, ◌-◌, ◌<◌, ◌≤◌, inl, inr, Bool, true, false, cond, not, ◌&&◌}
use Rattle.std.proofs.Common.{List, [], ◌∷◌, drop, take, slice_get, Some, None, refl, sym, ap, ◌∙◌, arith, nat_le}
use Rattle.std.specs.Prelude.{Option, option_map}
use Rattle.std.proofs.Math.Path.{fun_ext}
use Rattle.std.proofs.lemmas.Bool.Decides.{nat_tests}
use Rattle.std.specs.declared.result.Result.{Result}
use Rattle.std.specs.declared.result.Result.TheVariants.{Ok, Err}
use Rattle.wl_wire.specs.declared.header.Header.{Header}
use Rattle.wl_wire.specs.declared.kind.Kind.{Kind}
use Rattle.wl_wire.specs.declared.kind.Kind.TheVariants as kinds
use Rattle.wl_wire.specs.Argument.{Argument, Uint, Str, NewNamed}
use Rattle.wl_wire.specs.Word.{header_at}
use Rattle.wl_sigs.specs.Side.{Side}
use Rattle.wl_sigs.specs.Tables.{Interface, interface_at}
use Rattle.wl_message.specs.Cut.{is_size}
use Rattle.wl_object_map.specs.declared.object.Entry.{Entry}
use Rattle.wl_object_map.specs.Ranges.{is_of_server, max_server_id, first_server_id}
use Rattle.wl_object_map.specs.View.{lives}
use Rattle.wl_objects.specs.declared.error.Fault.{Fault}
use Rattle.wl_objects.specs.declared.error.Fault.TheVariants.{BadBind, BadSize}
use Rattle.wl_objects.specs.Reading.{Reader}
use Rattle.wl_objects.specs.Messages.{Received, NewObject, made, made_by, or_else, received, received_as, received_by}
use Rattle.wl_objects.specs.Messages.{is_bind, new_id_of, waits_for_request}
use Rattle.wl_recording.specs.declared.piece.Direction.{Direction}
use Rattle.wl_check.specs.declared.frames.FramedMessage.{FramedMessage}
use Rattle.wl_check.specs.declared.changes.AdvertisedGlobal.{AdvertisedGlobal}
use Rattle.wl_check.specs.Changes.{Call, side_of, first_number, advertised, changes, is_global}
use Rattle.wl_check.specs.Places.{KnownAtPlace, known}
use Rattle.wl_check.specs.Rules.{reader_by, version_of, allows_bind}
use Rattle.wl_check.specs.Rules.{called, judged_message, judged}
use Rattle.wl_check.specs.Session.{Session, Judged, messages, changes_at, changes_of}
use Rattle.wl_check.proofs.JudgedByPlaces.{reading, known_same}
use Rattle.theory_completion.specs.Completion.{IsRaised}
use Rattle.theory_completion.specs.Doubt.{has_version, has_no_version, made_of, binds_newer, KnowsBinds}
use Rattle.theory_completion.proofs.CompletedTables.{signature_raised, ended_raised, place_raised, version_rises}
use Rattle.theory_completion.proofs.SameJudged.{disallowed_alike, knows_bind, version_known, not_false}
use Rattle.theory_completion.proofs.SameMessages.{no_message, below_next}

-- ---- what a message changes

made_by_raised : (tables raised : List Interface) (version : ℕ) (kind : Kind) (value : Argument)
    → IsRaised tables raised → made_by raised version kind value ≡ made_by tables version kind value
made_by_raised tables raised version (kinds.New None) (NewNamed name own id) is =
    ap (option_map (λ iface. let new : NewObject = record { id = id; iface = iface; version = own } in new))
    (place_raised tables raised name is)
made_by_raised tables raised version kind value is = refl

made_raised : (tables raised : List Interface) (version : ℕ) (ks : List Kind) (values : List Argument)
    → IsRaised tables raised → made raised version ks values ≡ made tables version ks values
made_raised tables raised version [] values is = refl
made_raised tables raised version (kind ∷ ks) [] is = refl
made_raised tables raised version (kind ∷ ks) (value ∷ values) is =
    let first = made_by_raised tables raised version kind value is in
    let rest = made_raised tables raised version ks values is in
    λ i. or_else (first i) (rest i)

advertised_raised : (tables raised : List Interface) (values : List Argument) → IsRaised tables raised
    → advertised raised values ≡ advertised tables values
advertised_raised tables raised (Uint global ∷ Str (Some text) ∷ Uint version ∷ []) is =
    ap (option_map (λ place. let one : AdvertisedGlobal = record { name = global; iface = place; version = version } in one))
    (place_raised tables raised text is)
advertised_raised tables raised values is = refl

changes_raised : (tables raised : List Interface) (call : Call) → IsRaised tables raised
    → changes raised call ≡ changes tables call
changes_raised tables raised call is =
    let r = call.received in
    let m = made_raised tables raised r.entry.version r.signature.kinds r.values is in
    let a = advertised_raised tables raised r.values is in
    λ i. record (changes tables call) {
      made = m i;
      advertised = cond (is_global (side_of call.direction) r.entry.iface call.opcode) (a i) None;
    }

changes_of_raised : (tables raised : List Interface) (o : Option Judged) → IsRaised tables raised
    → changes_of raised o ≡ changes_of tables o
changes_of_raised tables raised None is = refl
changes_of_raised tables raised (Some (Err fault)) is = refl
changes_of_raised tables raised (Some (Ok call)) is = changes_raised tables raised call is

-- ---- a message

waits_raised : (tables raised : List Interface) (o : Option Entry) → IsRaised tables raised
    → waits_for_request raised o ≡ waits_for_request tables o
waits_raised tables raised None is = refl
waits_raised tables raised (Some e) is = ap (λ b. lives e.state && b) (ended_raised tables raised e.iface.0 e.version is)

reader_raised : (tables raised : List Interface) (k : KnownAtPlace) (direction : Direction) → IsRaised tables raised
    → reader_by raised k direction ≡ reader_by tables k direction
reader_raised tables raised k direction is =
    let waits = fun_ext (λ id. waits_raised tables raised (k.object id) is) in
    λ i. record (reader_by tables k direction) {
      new_server_id = λ id. new_id_of (is_of_server id && not (waits i id)
          && nat_le id (first_server_id + k.server_used)) (nat_le id max_server_id);
    }

received_raised : (tables raised : List Interface) (side : Side) (reader : Reader) (header : Header) (body : List ℕ)
    (waiting : ℕ) (o : Option Entry) → IsRaised tables raised
    → received_by raised side reader header body waiting o ≡ received_by tables side reader header body waiting o
received_raised tables raised side reader header body waiting None is = refl
received_raised tables raised side reader header body waiting (Some entry) is =
    ap (received_as side reader header body waiting entry)
    (signature_raised tables raised entry.iface.0 side header.opcode is)

allows_raised : (x y z w : Bool) → (z ≡ true → y ≡ true) → ((x && y && w) ≡ true → z ≡ true)
    → (x && y && w) ≡ (x && z && w)
allows_raised false y z w up down = refl
allows_raised true true true w up down = refl
allows_raised true false false w up down = refl
allows_raised true false true w up down = let h = up refl in absurd (cc (h))
allows_raised true true false true up down = sym (down refl)
allows_raised true true false false up down = refl

bind_raised : (tables raised : List Interface) (k : KnownAtPlace) (name : Option ℕ) (new : Option NewObject)
    → IsRaised tables raised → (allows_bind raised k name new ≡ true → has_no_version tables new ≡ false)
    → allows_bind raised k name new ≡ allows_bind tables k name new
bind_raised tables raised k None new is knows = refl
bind_raised tables raised k (Some name) None is knows = refl
bind_raised tables raised k (Some name) (Some new) is knows =
    let rises = version_rises tables raised new.iface.0 is.completes in
    allows_raised (nat_le 1 new.version) (nat_le new.version (version_of raised new.iface))
    (nat_le new.version (version_of tables new.iface)) (nat_le new.version (k.advertised_version name new.iface.0))
    (λ low. grind (arith, nat_tests, low, rises))
    (λ may. version_known tables new.iface new.version (interface_at tables new.iface.0) refl
    (not_false (has_version tables new.iface new.version) (knows may)))

called_raised : (tables raised : List Interface) (k : KnownAtPlace) (direction : Direction) (opcode : ℕ)
    (x : Result Received Fault) → IsRaised tables raised
    → binds_newer tables tables (Some (called raised k direction opcode x)) ≡ false
    → called raised k direction opcode x ≡ called tables k direction opcode x
called_raised tables raised k direction opcode (Err fault) is knows = refl
called_raised tables raised k direction opcode (Ok r) is knows =
    let bind = is_bind (side_of direction) r.entry.iface opcode in
    let same = made_raised tables raised r.entry.version r.signature.kinds r.values is in
    let name = first_number r.values in
    let allowed : bind ≡ true → allows_bind raised k name (made_of raised r) ≡ allows_bind tables k name (made_of tables r) =
    (λ its. ap (allows_bind raised k name) same ∙ bind_raised tables raised k name (made_of tables r) is
    (λ may. knows_bind tables tables direction opcode r bind (allows_bind raised k name (made_of raised r)) refl its
    (ap (allows_bind raised k name) same ∙ may) knows)) in
    ap (λ bad. cond bad (Err BadBind) (Ok (record { direction = direction; opcode = opcode; received = r })))
    (disallowed_alike bind (allows_bind raised k name (made_of raised r)) (allows_bind tables k name (made_of tables r))
    allowed)

frame_raised : (tables raised : List Interface) (k : KnownAtPlace) (frame : FramedMessage) (header : Header)
    (body : List ℕ) (good : Bool) → IsRaised tables raised
    → binds_newer tables tables (Some (cond good (judged_message raised k frame header body) (Err BadSize))) ≡ false
    → cond good (judged_message raised k frame header body) (Err BadSize)
    ≡ cond good (judged_message tables k frame header body) (Err BadSize)
frame_raised tables raised k frame header body false is knows = refl
frame_raised tables raised k frame header body true is knows =
    let way = frame.direction in
    let side = side_of way in
    let reader = reader_by raised k way in
    let waiting = frame.tokens - k.taken way in
    let x = received raised side reader header body waiting in
    let readers = reader_raised tables raised k way is in
    called_raised tables raised k way header.opcode x is knows
    ∙ ap (called tables k way header.opcode)
    (received_raised tables raised side reader header body waiting (reader.object header.object) is)
    ∙ (λ i. called tables k way header.opcode (received tables side (readers i) header body waiting))

judged_raised : (limit : ℕ) (tables raised : List Interface) (k : KnownAtPlace) (stream : List ℕ)
    (frame : FramedMessage) → IsRaised tables raised
    → binds_newer tables tables (Some (judged limit raised k stream frame)) ≡ false
    → judged limit raised k stream frame ≡ judged limit tables k stream frame
judged_raised limit tables raised k stream frame is knows =
    frame_raised tables raised k frame (header_at (drop frame.start stream))
    (take (frame.size - 8) (drop (frame.start + 8) stream)) (is_size limit frame.size) is knows

-- ---- the messages of a session

abbrev AgreeBelow : List Interface → List Interface → Session → ℕ → Type 0
AgreeBelow tables raised s k = (j : ℕ) → j < k → slice_get (messages raised s) j ≡ slice_get (messages tables s) j

changes_at_raised : (tables raised : List Interface) (s : Session) (k q : ℕ) → IsRaised tables raised
    → AgreeBelow tables raised s k → q < suc k
    → changes_at raised (messages raised s) q ≡ changes_at tables (messages tables s) q
changes_at_raised tables raised s k zero is agree below = refl
changes_at_raised tables raised s k (suc j) is agree below =
    ap (changes_of raised) (agree j (omega (arith, below)))
    ∙ changes_of_raised tables raised (slice_get (messages tables s) j) is

raised_here : (tables raised : List Interface) (s : Session) (k : ℕ) (o : Option FramedMessage)
    → slice_get s.frames k ≡ o → IsRaised tables raised → AgreeBelow tables raised s k
    → binds_newer tables tables (slice_get (messages raised s) k) ≡ false
    → slice_get (messages raised s) k ≡ slice_get (messages tables s) k
raised_here tables raised s k None at is agree knows = no_message raised s k at ∙ sym (no_message tables s k at)
raised_here tables raised s k (Some frame) at is agree knows =
    let here = known (changes_at raised (messages raised s)) (suc k) in
    let same = known_same (changes_at raised (messages raised s)) (changes_at tables (messages tables s)) (suc k)
    (λ q h. changes_at_raised tables raised s k q is agree h) in
    let read = reading raised s k frame at in
    let stream = s.streams frame.direction in
    read ∙ ap (λ (j : Judged). Some j) (judged_raised s.limit tables raised here stream frame is
    (ap (binds_newer tables tables) (sym read) ∙ knows)
    ∙ ap (λ (k : KnownAtPlace). judged s.limit tables k stream frame) same)
    ∙ sym (reading tables s k frame at)

raised_below : (tables raised : List Interface) (s : Session) → IsRaised tables raised → (k : ℕ)
    → ((j : ℕ) → j < k → binds_newer tables tables (slice_get (messages raised s) j) ≡ false)
    → AgreeBelow tables raised s k
raised_below tables raised s is zero knows j below = absurd (omega (arith, below))
raised_below tables raised s is (suc k) knows j below =
    let before = raised_below tables raised s is k (λ i h. knows i (omega (arith, h))) in
    elim (below_next j k below) [
      | inl less ↦ before j less
      | inr same ↦ rw same (raised_here tables raised s k (slice_get s.frames k) refl is before (knows k (omega arith)))
    ]

-- as long as no bind is newer than the tables, each message is judged as by these
pub raised_agree : (tables raised : List Interface) (s : Session) (k : ℕ) → IsRaised tables raised
    → KnowsBinds tables raised tables s k → (j : ℕ) → j ≤ k
    → slice_get (messages raised s) j ≡ slice_get (messages tables s) j
raised_agree tables raised s k is knows j below =
    raised_below tables raised s is (suc k) (λ i h. knows i (omega (arith, h))) j (omega (arith, below))
