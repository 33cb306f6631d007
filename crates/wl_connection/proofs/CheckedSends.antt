-- What a call that passed its checks makes, opens and destroys.
use Rattle.std.proofs.Common.{◌≡◌, ◌≢◌, inl, inr, ℕ, suc, ◌+◌, Bool, true, false, List, []}
use Rattle.std.proofs.Common.{◌∷◌, length, map, refl, sym, subst, ◌∙◌, ap, cond, eqb}
use Rattle.std.specs.declared.option.Option.{Option}
use Rattle.std.specs.declared.option.Option.TheVariants.{None, Some}
use Rattle.std.specs.declared.result.Result.{Result}
use Rattle.std.specs.declared.result.Result.TheVariants.{Ok, Err}
use Rattle.std.specs.Prelude.{IfSome, option_map, is_some, if◌then◌else◌}
use Rattle.wl_wire.specs.declared.kind.Kind.{Kind}
use Rattle.wl_wire.specs.declared.kind.Kind.TheVariants as kinds
use Rattle.wl_wire.specs.declared.kind.Iface.{Iface}
use Rattle.wl_wire.specs.Argument.{Argument, Int, Uint, Fixed, Str, Obj, Array, Fd}
use Rattle.wl_sigs.specs.Side.{Side}
use Rattle.wl_sigs.specs.Destroys.{Destroys}
use Rattle.wl_sigs.specs.Destroys.TheVariants.{Nothing, Target, Arg as ends_arg}
use Rattle.wl_sigs.specs.Tables.{MessageSignature, makes, made_objects, first_element, destroys_one}
use Rattle.wl_sigs.specs.Fixed.{display}
use Rattle.wl_sigs.specs.Valid.{Valid}
use Rattle.wl_message.specs.Outgoing.{Outgoing}
use Rattle.wl_objects.specs.declared.argument.Arg.{Arg}
use Rattle.wl_object_map.specs.declared.object.Object.{Object}
use Rattle.wl_object_map.specs.declared.object.Entry.{Entry}
use Rattle.wl_object_map.specs.declared.object.State.{State}
use Rattle.wl_object_map.specs.declared.object.State.TheVariants.{Live, Zombie}
use Rattle.wl_objects.specs.declared.error.SendError.{SendError}
use Rattle.wl_objects.specs.declared.error.SendError.TheVariants as refusals
use Rattle.wl_object_map.specs.declared.object.Maker.{Maker}
use Rattle.wl_object_map.specs.View.{lives, lives_in}
use Rattle.wl_object_map.specs.Objects.{Objects, look, next_id, is_live, births}
use Rattle.wl_object_map.specs.ObjectsLaws.{look-opened_at}
use Rattle.wl_objects.specs.Writing.{Given, given, given_of, wired, on_wire, suits, wrong_place}
use Rattle.wl_objects.specs.Writing.{lost_place, call_makes, id_of, message_len, message_bytes}
use Rattle.wl_objects.specs.Writing.{tokens_of}
use Rattle.wl_objects.specs.Messages.{ended_id, NewObject, opens, checked, destroys, maker_by}
use Rattle.wl_objects.proofs.Calls.{len-any}
use Rattle.wl_objects.proofs.WrittenArrives.{if-none}
use Rattle.wl_objects.proofs.CheckedCalls.{call-makes, not_named}
use Rattle.wl_objects.proofs.Wholes.{length-message, passes}
use Rattle.wl_connection.specs.Core.{Core, HasDisplay, with_view}
use Rattle.wl_connection.specs.Outcomes.{AnswersOrMemory}
use Rattle.wl_connection.specs.Sending.{answer_of, fits, following_len, made_at, next_object}
use Rattle.wl_connection.specs.Sending.{opening_answer, sent, with_following, following, with_sent}
use Rattle.wl_connection.specs.Sending.{IsSendAnswer, after_checked, after_send, opens_object}
use Rattle.wl_connection.proofs.Displays.{ends-another}
use Rattle.wl_connection.proofs.Messages.{fits-after}
use Rattle.wl_connection.proofs.Ends.{NamesRegistry, is_the_destroy, names_registry, the_destroy}

-- an argument of a call that makes nothing does not depend on the new id
one-wired : (n m : ℕ) (kind : Kind) (ks : List Kind) (x : Given) → suits kind x ≡ true → (kind ≡ kinds.New None → ⊥)
    → call_makes (kind ∷ ks) ≡ None → (wired n x ≡ wired m x) × (call_makes ks ≡ None)
one-wired n m kinds.Int ks (Int z) e f h = (refl, h)
one-wired n m kinds.Uint ks (Uint k) e f h = (refl, h)
one-wired n m kinds.Fixed ks (Fixed z) e f h = (refl, h)
one-wired n m (kinds.Str null) ks (Str text) e f h = (refl, h)
one-wired n m (kinds.Obj null iface) ks (Obj object) e f h = (refl, h)
one-wired n m (kinds.New (Some iface)) ks x e f h = absurd (cc)
one-wired n m (kinds.New None) ks x e f h = absurd (f refl)
one-wired n m (kinds.NewByServer iface) ks x e f h = absurd (cc)
one-wired n m kinds.Array ks (Array bytes) e f h = (refl, h)
one-wired n m kinds.Fd ks (Fd token) e f h = (refl, h)
one-wired n m kind ks x e f h = absurd (cc)

-- what a call that makes nothing writes does not depend on the new id
pub same-wired : (n m place : ℕ) (ks : List Kind) (list : List Arg) → wrong_place place ks (given list) ≡ None
    → call_makes ks ≡ None → on_wire n list ≡ on_wire m list
same-wired n m place [] [] w h = refl
same-wired n m place [] (x ∷ list) w h = absurd (cc)
same-wired n m place (kind ∷ ks) [] w h = absurd (cc)
same-wired n m place (kind ∷ ks) (x ∷ list) w h =
    let suit = if-none (suits kind (given_of x)) (wrong_place (suc place) ks (given list)) place w in
    let one = one-wired n m kind ks (given_of x) suit.0
    (λ (e : kind ≡ kinds.New None). not_named x (subst (λ (k : Kind). suits k (given_of x) ≡ true) e suit.0)) h
    in
    let more : on_wire n list ≡ on_wire m list = same-wired n m (suc place) ks list suit.1 one.1 in
    λ i. one.0 i ∷ more i

-- a call that makes an object has a new object in its signature
pub makes-some : (ks : List Kind) → is_some (call_makes ks) ≡ true → is_some (first_element (made_objects ks)) ≡ true
makes-some [] h = h
makes-some (kinds.Int ∷ ks) h = makes-some ks h
makes-some (kinds.Uint ∷ ks) h = makes-some ks h
makes-some (kinds.Fixed ∷ ks) h = makes-some ks h
makes-some (kinds.Str null ∷ ks) h = makes-some ks h
makes-some (kinds.Obj null iface ∷ ks) h = makes-some ks h
makes-some (kinds.New iface ∷ ks) h = refl
makes-some (kinds.NewByServer iface ∷ ks) h = refl
makes-some (kinds.Array ∷ ks) h = makes-some ks h
makes-some (kinds.Fd ∷ ks) h = makes-some ks h

version-at : (core : Core) (side : Side) (target : Object) (signature : MessageSignature) (list : List Arg) (entry : Entry)
    → look core.view target.id ≡ Some entry
    → wrong_place 0 signature.kinds (given list) ≡ None
    → made_at core side target signature (given list) ≡ next_object (maker_by side) core.view entry.version (call_makes signature.kinds)
version-at core side target signature list entry row w =
    rw row (call-makes core.tables entry.version (next_id (maker_by side) core.view) 0 signature.kinds list w)

-- a call makes the object that is opened next, if its signature has a new object
pub made-next : (core : Core) (side : Side) (target : Object) (opcode : ℕ) (list : List Arg)
    (signature : MessageSignature)
    (entry : Entry)
    → checked core.outbox.limit.bytes core.tables side core.view target opcode (given list) ≡ Ok signature
    → look core.view target.id ≡ Some entry
    → made_at core side target signature (given list) ≡ next_object (maker_by side) core.view entry.version (call_makes signature.kinds)
made-next core side target opcode list signature entry e row =
    version-at core side target signature list entry row
    (passes core.outbox.limit.bytes core.tables side core.view target opcode (given list) signature e).suit

-- a call writes the same for the id of the object it opens as for the next id, even if it opens
-- none
pub wired-next : (core : Core) (side : Side) (target : Object) (opcode : ℕ) (list : List Arg)
    (signature : MessageSignature)
    (id : ℕ) (iface : Option Iface)
    → checked core.outbox.limit.bytes core.tables side core.view target opcode (given list) ≡ Ok signature
    → iface ≡ call_makes signature.kinds → (is_some iface ≡ true → id ≡ next_id (maker_by side) core.view)
    → on_wire id list ≡ on_wire (next_id (maker_by side) core.view) list
wired-next core side target opcode list signature id None e f h =
    same-wired id (next_id (maker_by side) core.view) 0 signature.kinds list
    (passes core.outbox.limit.bytes core.tables side core.view target opcode (given list) signature e).suit (sym f)
wired-next core side target opcode list signature id (Some iface) e f h = ap (λ n. on_wire n list) (h refl)

-- the target is still live after an object was opened
live-opened : (maker : Maker) (view : Objects) (new : Option Iface) (version id : ℕ) → is_live view id ≡ true
    → is_live (opens view (next_object maker view version new)) id ≡ true
live-opened maker view None version id h = h
live-opened maker view (Some iface) version id h =
    ap lives_in (look-opened_at view (next_id maker view) iface version id) ∙ by_id (eqb id (next_id maker view))
  where
    by_id : (b : Bool) → lives_in (cond b (Some (record {
      birth = births view (next_id maker view);
      iface = iface;
      version = version;
      state = Live;
    })) (look view id)) ≡ true
    by_id true = refl
    by_id false = h

state-lives : (s : State) → lives s ≡ true → lives s ≡ true
state-lives Live h = refl
state-lives Zombie h = h

pub target-live : (core : Core) (side : Side) (target : Object) (opcode : ℕ) (list : List Arg)
    (signature : MessageSignature)
    (new : Option Iface) (version : ℕ)
    → checked core.outbox.limit.bytes core.tables side core.view target opcode (given list) ≡ Ok signature
    → is_live (opens core.view (next_object (maker_by side) core.view version new)) target.id ≡ true
target-live core side target opcode list signature new version e =
    let p = passes core.outbox.limit.bytes core.tables side core.view target opcode (given list) signature e in
    live-opened (maker_by side) core.view new version target.id (ap lives_in p.row ∙ state-lives p.entry.state p.live)

-- the room that the code tests is the room that a call needs
pub fits-known : (o : Outgoing) (list : List Arg) (len more other count : ℕ) (b : Bool)
    → len ≡ message_len (on_wire 0 list) → more ≡ other → count ≡ length (tokens_of (given list))
    → b ≡ fits o (len + more) count
    → b ≡ fits o (message_len (on_wire 0 list) + other) (length (tokens_of (given list)))
fits-known o list len more other count b whole m tokens e =
    e ∙ (ap (λ (n : ℕ). fits o (n + more) count) whole
    ∙ (ap (λ (n : ℕ). fits o (message_len (on_wire 0 list) + n) count) m
    ∙ ap (fits o (message_len (on_wire 0 list) + other)) tokens))

-- there is room for the event that follows a message
pub fits-behind : (core written : Core) (view : Objects) (list : List Arg) (target opcode id more : ℕ) (tokens : List ℕ)
    → fits core.outbox (message_len (on_wire 0 list) + more) (length tokens) ≡ true
    → written ≡ with_sent (with_view core view) target opcode (on_wire id list) tokens
    → fits written.outbox more 0 ≡ true
fits-behind core written view list target opcode id more tokens h e =
    let len : length (message_bytes target opcode (on_wire id list)) ≡ message_len (on_wire 0 list) =
    length-message target opcode (on_wire id list) ∙ len-any id (given list) in
    let room : fits core.outbox (length (message_bytes target opcode (on_wire id list)) + more) (length tokens) ≡ true =
    ap (λ (n : ℕ). fits core.outbox (n + more) (length tokens)) len ∙ h in
    ap (λ (c : Core). fits c.outbox more 0) e ∙ fits-after core.outbox
    (message_bytes target opcode (on_wire id list)) tokens more room

gives-more : {X E : Type 0} (memory : E) (wants more : Bool) (answer result : Result X E) → (wants ≡ true → more ≡ true)
    → AnswersOrMemory memory wants answer result → AnswersOrMemory memory more answer result
gives-more memory wants more answer result f (inl e) = inl e
gives-more memory wants more answer result f (inr w) = inr (w.0, f w.1, w.2)

-- if there is room, the result of a call is that of opening its object
pub answered : (core : Core) (side : Side) (target : Object) (opcode : ℕ) (list : List Arg)
    (signature : MessageSignature)
    (entry : Entry) (result : Result (Option Object) SendError)
    → checked core.outbox.limit.bytes core.tables side core.view target opcode (given list) ≡ Ok signature
    → look core.view target.id ≡ Some entry
    → fits core.outbox (message_len (on_wire 0 list) + following_len side signature.destroys)
    (length (tokens_of (given list))) ≡ true
    → AnswersOrMemory refusals.Memory (is_some (call_makes signature.kinds))
    (opening_answer core (maker_by side) (next_object (maker_by side) core.view entry.version (call_makes signature.kinds))) result
    → AnswersOrMemory refusals.Memory (is_some (makes signature))
    (answer_of core side target (given list) (Ok signature)) result
answered core side target opcode list signature entry result e row fit g =
    let same : answer_of core side target (given list) (Ok signature)
    ≡ opening_answer core (maker_by side) (next_object (maker_by side) core.view entry.version (call_makes signature.kinds)) =
    ap (λ (b : Bool). if b then opening_answer core (maker_by side) (made_at core side target signature (given list)) else Err refusals.Full)
    fit
    ∙ ap (opening_answer core (maker_by side)) (made-next core side target opcode list signature entry e row) in
    gives-more refusals.Memory (is_some (call_makes signature.kinds)) (is_some (makes signature))
    (answer_of core side target (given list) (Ok signature)) result (makes-some signature.kinds)
    (subst (λ (a : Result (Option Object) SendError). AnswersOrMemory refusals.Memory
    (is_some (call_makes signature.kinds)) a result) (sym same) g)

id-where : (maker : Maker) (new : Option Object) (view : Objects) (iface : Option Iface)
    → IfSome iface (λ _. id_of new ≡ next_id maker view) → is_some iface ≡ true → id_of new ≡ next_id maker view
id-where maker new view None h s = absurd (cc)
id-where maker new view (Some iface) h s = h

-- the message is in the outbox, and the new object in the table
pub written-known : (core opened written : Core) (side : Side) (target : Object) (opcode : ℕ) (list : List Arg)
    (signature : MessageSignature) (entry : Entry) (new : Option Object) (iface : Option Iface) (tokens : List ℕ)
    → checked core.outbox.limit.bytes core.tables side core.view target opcode (given list) ≡ Ok signature
    → look core.view target.id ≡ Some entry → iface ≡ call_makes signature.kinds
    → opened ≡ with_view core (opens core.view (next_object (maker_by side) core.view entry.version iface))
    → IfSome iface (λ _. id_of new ≡ next_id (maker_by side) core.view)
    → written ≡ with_sent opened target.id opcode (on_wire (id_of new) list) tokens → tokens ≡ tokens_of (given list)
    → written ≡ with_view (with_sent core target.id opcode (map (wired (next_id (maker_by side) core.view)) (given list))
    (tokens_of (given list))) (opens core.view (made_at core side target signature (given list)))
written-known core opened written side target opcode list signature entry new iface tokens e row f o i w t =
    let made : next_object (maker_by side) core.view entry.version iface ≡ made_at core side target signature (given list) =
    ap (next_object (maker_by side) core.view entry.version) f ∙ sym (made-next core side target opcode list signature entry e row) in
    let values : on_wire (id_of new) list ≡ on_wire (next_id (maker_by side) core.view) list =
    wired-next core side target opcode list signature (id_of new) iface e f (id-where (maker_by side) new core.view iface i) in
    w ∙ (ap (λ (c : Core). with_sent c target.id opcode (on_wire (id_of new) list) tokens)
    (o ∙ ap (λ (m : Option NewObject). with_view core (opens core.view m)) made)
    ∙ (ap (λ (vs : List Argument). with_sent (with_view core
    (opens core.view (made_at core side target signature (given list)))) target.id opcode vs tokens) values
    ∙ ap (with_sent (with_view core (opens core.view (made_at core side target signature (given list)))) target.id opcode
    (on_wire (next_id (maker_by side) core.view) list)) t))

-- no message destroys wl_display
pub ends-other : (core : Core) (side : Side) (target : Object) (opcode : ℕ) (list : List Arg)
    (signature : MessageSignature)
    → Valid core.tables → HasDisplay core.view
    → checked core.outbox.limit.bytes core.tables side core.view target opcode (given list) ≡ Ok signature
    → signature.destroys ≡ Target → target.id ≢ 1
ends-other core side target opcode list signature v d e t =
    let p = passes core.outbox.limit.bytes core.tables side core.view target opcode (given list) signature e in
    ends-another core.tables core.view side target.id opcode p.entry signature v d p.row p.exists t

-- then the object that the message destroys is closed
pub ended-known : (core written ended : Core) (side : Side) (target : Object) (opcode : ℕ) (list : List Arg)
    (signature : MessageSignature) (what : Destroys) (id : ℕ)
    → written ≡ with_view (with_sent core target.id opcode (map (wired (next_id (maker_by side) core.view)) (given list))
    (tokens_of (given list))) (opens core.view (made_at core side target signature (given list)))
    → ended ≡ with_following (following side what) id (with_view written (destroys side what id written.view))
    → what ≡ signature.destroys → id ≡ ended_id what target.id (on_wire 0 list)
    → ended ≡ sent core side target opcode (given list) signature
ended-known core written ended side target opcode list signature what id w e d i =
    let same : id ≡ ended_id signature.destroys target.id (on_wire 0 list) =
    i ∙ ap (λ (x : Destroys). ended_id x target.id (on_wire 0 list)) d in
    e ∙ (λ j. with_following (following side (d j)) (same j)
    (with_view (w j) (destroys side (d j) (same j) (w j).view)))

-- ---- what is destroyed is live and not wl_display

open_row : (maker : Maker) (view : Objects) (new : Option Iface) (version id : ℕ) → NamesRegistry view id
    → is_live (opens view (next_object maker view version new)) id ≡ true
open_row maker view new version id n = live-opened maker view new version id
    (ap lives_in n.there ∙ state-lives n.entry.state n.live)

argument-named : (core : Core) (side : Side) (target : Object) (opcode : ℕ) (list : List Arg)
    (signature : MessageSignature)
    (k : ℕ) → Valid core.tables
    → checked core.outbox.limit.bytes core.tables side core.view target opcode (given list) ≡ Ok signature
    → signature.destroys ≡ ends_arg k → NamesRegistry core.view (ended_id signature.destroys target.id (on_wire 0 list))
argument-named core side target opcode list signature k v e d =
    let p = passes core.outbox.limit.bytes core.tables side core.view target opcode (given list) signature e in
    let same : signature ≡ the_destroy = is_the_destroy core.tables p.entry.iface.0 side opcode signature k v p.exists d
    in
    subst (λ (m : MessageSignature). NamesRegistry core.view (ended_id m.destroys target.id (on_wire 0 list)))
    (sym same)
    (names_registry core.view (given list) (subst
    (λ (m : MessageSignature). wrong_place 0 m.kinds (given list) ≡ None) same p.suit)
    (subst (λ (m : MessageSignature). lost_place (look core.view) 0 m.kinds (given list) ≡ None) same p.can_name))

pub ended-live : (core : Core) (side : Side) (target : Object) (opcode : ℕ) (list : List Arg)
    (signature : MessageSignature)
    (new : Option Iface) (version : ℕ) → Valid core.tables
    → checked core.outbox.limit.bytes core.tables side core.view target opcode (given list) ≡ Ok signature
    → is_live (opens core.view (next_object (maker_by side) core.view version new))
    (ended_id signature.destroys target.id (on_wire 0 list)) ≡ true
ended-live core side target opcode list signature new version v e = by_what signature.destroys refl
  where
    by_what : (what : Destroys) → signature.destroys ≡ what
        → is_live (opens core.view (next_object (maker_by side) core.view version new))
        (ended_id signature.destroys target.id (on_wire 0 list)) ≡ true
    by_what Nothing d = rw d (target-live core side target opcode list signature new version e)
    by_what Target d = rw d (target-live core side target opcode list signature new version e)
    by_what (ends_arg k) d = open_row (maker_by side) core.view new version _
        (argument-named core side target opcode list signature k v e d)

registry-other : (view : Objects) (id : ℕ) → HasDisplay view → NamesRegistry view id → id ≢ 1
registry-other view id d n = λ same. (
    let one : Some n.entry ≡ Some (record { birth = 0; iface = display; version = 1; state = Live }) =
    sym n.there ∙ ap (look view) same ∙ d in
    let place : Some n.entry.iface.0 ≡ Some 0 = ap (option_map (λ (x : Entry). x.iface.0)) one in
    let r = n.registers in cc (place, r))

pub ended-other : (core : Core) (side : Side) (target : Object) (opcode : ℕ) (list : List Arg)
    (signature : MessageSignature)
    → Valid core.tables → HasDisplay core.view
    → checked core.outbox.limit.bytes core.tables side core.view target opcode (given list) ≡ Ok signature
    → destroys_one signature.destroys ≡ true → ended_id signature.destroys target.id (on_wire 0 list) ≢ 1
ended-other core side target opcode list signature v d e one = by_what signature.destroys refl
  where
    by_what : (what : Destroys) → signature.destroys ≡ what → ended_id signature.destroys target.id (on_wire 0 list) ≢ 1
    by_what Nothing h = absurd (let no = ap destroys_one h in cc (no, one))
    by_what Target h = subst (λ (what : Destroys). ended_id what target.id (on_wire 0 list) ≢ 1) (sym h)
        (ends-other core side target opcode list signature v d e h)
    by_what (ends_arg k) h = registry-other core.view _ d
        (argument-named core side target opcode list signature k v e h)

-- a call that passed its checks returns what `send` returns
pub send-answered : (core : Core) (side : Side) (target : Object) (opcode : ℕ) (list : List Given)
    (signature : MessageSignature) (result : Result (Option Object) SendError)
    → core.failed ≡ false
    → checked core.outbox.limit.bytes core.tables side core.view target opcode list ≡ Ok signature
    → AnswersOrMemory refusals.Memory (is_some (makes signature))
    (answer_of core side target list (Ok signature)) result
    → IsSendAnswer core side target opcode list result
send-answered core side target opcode list signature result alive e h =
    let all = checked core.outbox.limit.bytes core.tables side core.view target opcode list in
    subst (λ (b : Bool). AnswersOrMemory refusals.Memory (opens_object all)
    (if b then Err refusals.Failed else answer_of core side target list all) result) (sym alive)
    (subst (λ (r : Result MessageSignature SendError). AnswersOrMemory refusals.Memory (opens_object r)
    (answer_of core side target list r) result) (sym e) h)

-- and leaves what `send` leaves
pub send-leaves : (core after : Core) (side : Side) (target : Object) (opcode : ℕ) (list : List Given)
    (signature : MessageSignature)
    → checked core.outbox.limit.bytes core.tables side core.view target opcode list ≡ Ok signature
    → after ≡ sent core side target opcode list signature
    → after ≡ after_send core side target opcode list
send-leaves core after side target opcode list signature e h =
    h ∙ ap (after_checked core side target opcode list) (sym e)
