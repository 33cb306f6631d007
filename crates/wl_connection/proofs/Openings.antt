-- Calls that open no object.
use Rattle.std.proofs.Common.{◌≡◌, ◌≢◌, inl, inr, ℕ, ◌+◌, Bool, true, false, List, [], ◌∷◌, map}
use Rattle.std.proofs.Common.{refl, sym, ap, subst, ◌∙◌}
use Rattle.std.specs.declared.option.Option.{Option}
use Rattle.std.specs.declared.option.Option.TheVariants.{None, Some}
use Rattle.std.specs.declared.result.Result.{Result}
use Rattle.std.specs.declared.result.Result.TheVariants.{Ok, Err}
use Rattle.std.specs.Prelude.{is_some, if◌then◌else◌, nat_lt, length}
use Rattle.wl_wire.specs.declared.kind.Kind.{Kind}
use Rattle.wl_wire.specs.declared.kind.Kind.TheVariants as kinds
use Rattle.wl_wire.specs.Argument.{Argument}
use Rattle.wl_sigs.specs.Side.{Side}
use Rattle.wl_sigs.specs.Side.TheVariants.{Event}
use Rattle.wl_sigs.specs.Tables.{Interface, MessageSignature, makes, new_objects, made_objects, first_element}
use Rattle.wl_sigs.specs.Tables.{signature_at}
use Rattle.wl_sigs.specs.Tables.{server_objects}
use Rattle.wl_sigs.specs.Rules.{has_server_objects}
use Rattle.wl_sigs.specs.Valid.{Valid}
use Rattle.wl_object_map.specs.declared.object.Object.{Object}
use Rattle.wl_object_map.specs.declared.object.Entry.{Entry}
use Rattle.wl_object_map.specs.declared.object.Maker.{Maker}
use Rattle.wl_object_map.specs.Objects.{Objects, look, next_id}
use Rattle.wl_objects.specs.declared.error.SendError.{SendError}
use Rattle.wl_objects.specs.declared.error.SendError.TheVariants as refusals
use Rattle.wl_objects.specs.Writing.{Given, wired, wrong_place, lost_place, message_len}
use Rattle.wl_objects.specs.Writing.{tokens_of}
use Rattle.wl_objects.specs.Messages.{made, maker_by, NewObject, signature_unless_lost, signature_unless_wrong}
use Rattle.wl_objects.specs.Messages.{checked_as}
use Rattle.wl_objects.specs.Messages.{unless_hidden, checked_by, checked, live_row, is_hidden}
use Rattle.wl_sigs.proofs.ServerObjectsTold.{none_by_server}
use Rattle.wl_connection.specs.Core.{Core}
use Rattle.wl_connection.specs.Sending.{IsSendAnswer, OpensNothing, answer_of, opening_answer}
use Rattle.wl_connection.specs.Sending.{opens_object, made_at, version_at, following_len, fits}

-- not refused with S10 or S11
abbrev IsEarly : Result MessageSignature SendError → Type 0
IsEarly (Ok m) = Unit {0}
IsEarly (Err why) = (why ≢ refusals.NoIds) × (why ≢ refusals.Memory)

early_len : (b : Bool) (m : MessageSignature) → IsEarly (if b then Err refusals.TooLong else Ok m)
early_len true m = (λ e. cc e, λ e. cc e)
early_len false m = tt

early_lost : (limit len : ℕ) (o : Option ℕ) (m : MessageSignature) → IsEarly (signature_unless_lost limit o len m)
early_lost limit len None m = early_len (nat_lt limit len) m
early_lost limit len (Some place) m = (λ e. cc e, λ e. cc e)

early_wrong : (limit len : ℕ) (o lost : Option ℕ) (m : MessageSignature)
    → IsEarly (signature_unless_wrong limit o lost len m)
early_wrong limit len None lost m = early_lost limit len lost m
early_wrong limit len (Some place) lost m = (λ e. cc e, λ e. cc e)

early_old : (b : Bool) (r : Result MessageSignature SendError) → IsEarly r
    → IsEarly (if b then Err refusals.TooOld else r)
early_old true r h = (λ e. cc e, λ e. cc e)
early_old false r h = h

early_as : (limit : ℕ) (view : Objects) (given : List Given) (entry : Entry) (o : Option MessageSignature)
    → IsEarly (checked_as limit view given entry o)
early_as limit view given entry None = (λ e. cc e, λ e. cc e)
early_as limit view given entry (Some m) =
    early_old (nat_lt entry.version m.since) (signature_unless_wrong limit (wrong_place 0 m.kinds given)
    (lost_place (look view) 0 m.kinds given) (message_len (map (wired 0) given)) m)
    (early_wrong limit (message_len (map (wired 0) given)) (wrong_place 0 m.kinds given)
    (lost_place (look view) 0 m.kinds given) m)

early_by : (limit : ℕ) (tables : List Interface) (side : Side) (view : Objects) (opcode : ℕ) (given : List Given)
    (o : Option Entry) → IsEarly (checked_by limit tables side view opcode given o)
early_by limit tables side view opcode given None = (λ e. cc e, λ e. cc e)
early_by limit tables side view opcode given (Some entry) =
    early_as limit view given entry (unless_hidden (is_hidden side entry.iface opcode)
    (signature_at tables entry.iface.0 side opcode))

early_checked : (limit : ℕ) (tables : List Interface) (side : Side) (view : Objects) (target : Object) (opcode : ℕ)
    (given : List Given) → IsEarly (checked limit tables side view target opcode given)
early_checked limit tables side view target opcode given =
    early_by limit tables side view opcode given (live_row view target)

-- a message whose signature has no new object makes none
pub makes_none : (tables : List Interface) (version : ℕ) (ks : List Kind) (values : List Argument)
    → is_some (first_element (made_objects ks)) ≡ false → made tables version ks values ≡ None
makes_none tables version [] values h = refl
makes_none tables version (k ∷ ks) [] h = refl
makes_none tables version (kinds.Int ∷ ks) (v ∷ values) h = makes_none tables version ks values h
makes_none tables version (kinds.Uint ∷ ks) (v ∷ values) h = makes_none tables version ks values h
makes_none tables version (kinds.Fixed ∷ ks) (v ∷ values) h = makes_none tables version ks values h
makes_none tables version (kinds.Str null ∷ ks) (v ∷ values) h = makes_none tables version ks values h
makes_none tables version (kinds.Obj null iface ∷ ks) (v ∷ values) h = makes_none tables version ks values h
makes_none tables version (kinds.New iface ∷ ks) (v ∷ values) h = absurd (cc h)
makes_none tables version (kinds.NewByServer iface ∷ ks) (v ∷ values) h = absurd (cc h)
makes_none tables version (kinds.Array ∷ ks) (v ∷ values) h = makes_none tables version ks values h
makes_none tables version (kinds.Fd ∷ ks) (v ∷ values) h = makes_none tables version ks values h

nothing_room : (core : Core) (maker : Maker) (b : Bool) (o : Option NewObject) → o ≡ None
    → OpensNothing (if b then opening_answer core maker o else Err refusals.Full)
nothing_room core maker true o e = rw e refl
nothing_room core maker false o e = (λ f. cc f, λ f. cc f)

nothing_of : (core : Core) (side : Side) (target : Object) (given : List Given) (r : Result MessageSignature SendError)
    → IsEarly r → opens_object r ≡ false → OpensNothing (answer_of core side target given r)
nothing_of core side target given (Err why) early h = early
nothing_of core side target given (Ok m) early h =
    nothing_room core (maker_by side) (fits core.outbox (message_len (map (wired 0) given) + following_len side m.destroys)
    (length (tokens_of given))) (made_at core side target m given)
    (makes_none core.tables (version_at (look core.view target.id)) m.kinds
    (map (wired (next_id (maker_by side) core.view)) given) h)

nothing_unless : (b : Bool) (r : Result (Option Object) SendError) → OpensNothing r
    → OpensNothing (if b then Err refusals.Failed else r)
nothing_unless true r h = (λ e. cc e, λ e. cc e)
nothing_unless false r h = h

-- the result if nothing is opened
pub opens_nothing : (core : Core) (side : Side) (target : Object) (opcode : ℕ) (given : List Given)
    (result : Result (Option Object) SendError)
    → IsSendAnswer core side target opcode given result
    → opens_object (checked core.outbox.limit.bytes core.tables side core.view target opcode given) ≡ false
    → OpensNothing result
opens_nothing core side target opcode given result (inl e) h =
    let r = checked core.outbox.limit.bytes core.tables side core.view target opcode given in
    subst OpensNothing (sym e)
    (nothing_unless core.failed (answer_of core side target given r)
    (nothing_of core side target given r (early_checked core.outbox.limit.bytes core.tables side core.view target opcode
    given) h))
opens_nothing core side target opcode given result (inr m) h = absurd (let yes = m.1 in cc (yes, h))

-- kinds without a new object of either maker
none_made : (ks : List Kind) → new_objects ks ≡ [] → server_objects ks ≡ [] → made_objects ks ≡ []
none_made [] h g = refl
none_made (kinds.Int ∷ ks) h g = none_made ks h g
none_made (kinds.Uint ∷ ks) h g = none_made ks h g
none_made (kinds.Fixed ∷ ks) h g = none_made ks h g
none_made (kinds.Str null ∷ ks) h g = none_made ks h g
none_made (kinds.Obj null iface ∷ ks) h g = none_made ks h g
none_made (kinds.New iface ∷ ks) h g = absurd (cc h)
none_made (kinds.NewByServer iface ∷ ks) h g = absurd (cc g)
none_made (kinds.Array ∷ ks) h g = none_made ks h g
none_made (kinds.Fd ∷ ks) h g = none_made ks h g

-- a message without a new object opens nothing
opens_none_as : (b : Bool) (o : Option MessageSignature)
    → ((m : MessageSignature) → o ≡ Some m → is_some (makes m) ≡ false)
    → (limit : ℕ) (view : Objects) (given : List Given) (entry : Entry)
    → opens_object (checked_as limit view given entry (unless_hidden b o)) ≡ false
opens_none_as true o h limit view given entry = refl
opens_none_as false None h limit view given entry = refl
opens_none_as false (Some m) h limit view given entry =
    by_test (nat_lt entry.version m.since) (wrong_place 0 m.kinds given) (lost_place (look view) 0 m.kinds given)
  where
    by_len : (b : Bool) → opens_object (if b then Err refusals.TooLong else Ok m) ≡ false
    by_len true = refl
    by_len false = h m refl

    by_lost : (o : Option ℕ)
        → opens_object (signature_unless_lost limit o (message_len (map (wired 0) given)) m) ≡ false
    by_lost None = by_len (nat_lt limit (message_len (map (wired 0) given)))
    by_lost (Some place) = refl

    by_wrong : (o lost : Option ℕ)
        → opens_object (signature_unless_wrong limit o lost (message_len (map (wired 0) given)) m) ≡ false
    by_wrong None lost = by_lost lost
    by_wrong (Some place) lost = refl

    by_test : (b : Bool) (o lost : Option ℕ) → opens_object
        (if b then Err refusals.TooOld else signature_unless_wrong limit o lost (message_len (map (wired 0) given)) m)
        ≡ false
    by_test true o lost = refl
    by_test false o lost = by_wrong o lost

-- if the server makes no objects by the tables, an event has no new object
pub event_makes_none : (tables : List Interface) → Valid tables → has_server_objects tables ≡ false
    → (place opcode : ℕ) (m : MessageSignature) → signature_at tables place Event opcode ≡ Some m
    → is_some (makes m) ≡ false
event_makes_none tables v none place opcode m at = ap (λ l. is_some (first_element l)) (none_made m.kinds
    (v.few_objects_made.events place opcode m at) (none_by_server tables none place opcode m at))

-- so writing an event opens nothing
event_by : (limit : ℕ) (tables : List Interface) (view : Objects) (opcode : ℕ) (given : List Given) (o : Option Entry)
    → Valid tables → has_server_objects tables ≡ false
    → opens_object (checked_by limit tables Event view opcode given o) ≡ false
event_by limit tables view opcode given None v none = refl
event_by limit tables view opcode given (Some entry) v none =
    opens_none_as (is_hidden Event entry.iface opcode) (signature_at tables entry.iface.0 Event opcode)
    (event_makes_none tables v none entry.iface.0 opcode) limit view given entry

pub event_opens_none : (limit : ℕ) (tables : List Interface) (view : Objects) (target : Object) (opcode : ℕ)
    (given : List Given) → Valid tables → has_server_objects tables ≡ false
    → opens_object (checked limit tables Event view target opcode given) ≡ false
event_opens_none limit tables view target opcode given v none =
    event_by limit tables view opcode given (live_row view target) v none

-- an event that passed its checks opens nothing
pub event_sent : (core : Core) (side : Side) (target : Object) (opcode : ℕ) (given : List Given)
    (result : Result (Option Object) SendError) → side ≡ Event → has_server_objects core.tables ≡ false
    → Valid core.tables → IsSendAnswer core side target opcode given result → OpensNothing result
event_sent core side target opcode given result s unmade v answer =
    opens_nothing core side target opcode given result answer (ap (λ (x : Side). opens_object
    (checked core.outbox.limit.bytes core.tables x core.view target opcode given)) s
    ∙ event_opens_none core.outbox.limit.bytes core.tables core.view target opcode given v unmade)
