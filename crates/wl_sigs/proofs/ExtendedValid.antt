-- Tables extended by a text are valid if and only if no line of the text breaks a rule.
use Rattle.std.proofs.Common.{◌≡◌, ℕ, ◌<◌, ◌≤◌, inl, inr, true, false, List, length, refl, sym, ap}
use Rattle.std.proofs.Common.{◌∙◌, subst, Some, None, Option, Bool, slice_get, ◌+◌, arith}
use Rattle.std.specs.Prelude.{◌↔◌}
use Rattle.std.specs.List.{Contains, list_any}
use Rattle.std.proofs.lemmas.Option.{slice_get_within}
use Rattle.wl_wire.specs.declared.kind.Kind.TheVariants as kinds
use Rattle.wl_wire.specs.declared.kind.Iface.{Iface}
use Rattle.wl_sigs.specs.Side.{Side}
use Rattle.wl_sigs.specs.Side.TheVariants.{Request, Event}
use Rattle.wl_sigs.specs.Tables.{MessageSignature, Interface, interface_at, message_of, signature_at}
use Rattle.wl_sigs.specs.Tables.{messages_of, has_destroying_event, destroys_target, named_interface}
use Rattle.wl_sigs.specs.Valid.{IsBind, IsFixedPlace, Valid}
use Rattle.wl_text.specs.Text.{WrittenInterface}
use Rattle.wl_sigs.specs.Joined.{all_names, first_place}
use Rattle.wl_sigs.specs.Broken.{Broken}
use Rattle.wl_sigs.specs.FirstBroken.{MessageBreaks, message_misnamed, message_named_again}
use Rattle.wl_sigs.specs.FirstBroken.{message_beyond, too_many_arguments, event_makes}
use Rattle.wl_sigs.specs.FirstBroken.{request_makes_two, new_without_interface, object_of_any}
use Rattle.wl_sigs.specs.FirstBroken.{event_destroys, object_of_ended, since_below_one}
use Rattle.wl_sigs.specs.FirstBroken.{since_above_version, interface_missing}
use Rattle.wl_sigs.specs.FirstBroken.{request_has_server_object, event_has_two_server_objects}
use Rattle.wl_sigs.specs.FirstBroken.{server_object_of_ended, server_object_of_fixed}
use Rattle.wl_sigs.specs.Extended.{gathered, grown, extended}
use Rattle.wl_sigs.specs.Extending.{first_line_broken}
use Rattle.wl_sigs.specs.FirstLineBroken.{AddsMessage, Clashes, request_of_ended, ends_argument}
use Rattle.wl_sigs.specs.FirstLineBroken.{ends_server_object}
use Rattle.wl_sigs.specs.FirstLineBroken.{ExtendsRightly, by_declared, by_added, by_clash}
use Rattle.wl_sigs.specs.FirstLineBroken.{by_extension}
use Rattle.wl_sigs.proofs.Lookups.{found, signature_from}
use Rattle.wl_sigs.proofs.JoinedValid.{joined_valid, any_at}
use Rattle.wl_sigs.proofs.ValidKeeps.{any_true, valid_unbroken}
use Rattle.wl_rules.proofs.FirstBrokenLine.{earlier_none}
use Rattle.wl_sigs.proofs.FirstWords.{some_same, declared_least}
use Rattle.wl_sigs.proofs.Grown.{length_grown}
use Rattle.wl_sigs.proofs.GrownStays.{stays, message_stays}
use Rattle.wl_sigs.proofs.GrownValid.{NoLineBreaks, of_contained, grown_keeps}
use Rattle.wl_sigs.proofs.FirstLineWords.{line_least}

-- if no broken line is found, no line breaks a rule
none_breaks : (tables : List Interface) (written : List WrittenInterface) → first_line_broken tables written ≡ None
    → NoLineBreaks tables written
none_breaks tables written none line rule breaks = (line_least tables written).none none line rule breaks

pub extended_valid : (tables : List Interface) (written : List WrittenInterface) → Valid tables
    → first_line_broken tables written ≡ None → Valid (extended tables written)
extended_valid tables written valid none =
    let g = gathered tables written in
    let both = earlier_none _ _ none in
    let others = earlier_none _ _ both.1 in
    joined_valid (grown tables g) g.declared
    (grown_keeps tables written valid (none_breaks tables written none) both.0) others.1

pub extends_rightly : (tables : List Interface) (written : List WrittenInterface)
    → first_line_broken tables written ≡ None → ExtendsRightly tables written
extends_rightly tables written none line rule g own declares breaks =
    none_breaks tables written none line rule (by_extension g own declares breaks)

-- in valid tables no message but wl_registry.bind breaks a rule
message_keeps : (all : List Interface) → Valid all → (place : ℕ) (i : Interface) (side : Side) (o : ℕ)
    (m : MessageSignature) → interface_at all place ≡ Some i → message_of side o i ≡ Some m
    → (IsBind place side o → ⊥) → (rule : ℕ) → MessageBreaks all i side o m rule → ⊥
message_keeps all valid place i side o m at of no_bind rule breaks = by_rule breaks
  where
    here : signature_at all place side o ≡ Some m
    here = signature_from all place side o i m at of

    as_side : (s : Side) → side ≡ s → signature_at all place s o ≡ Some m
    as_side s is = subst (λ (x : Side). signature_at all place x o ≡ Some m) is here

    within : o < length (messages_of side i)
    within = slice_get_within (messages_of side i) o m of

    made : (iface : Iface) (j : Interface) → Contains m.kinds (kinds.NewByServer iface)
        → interface_at all iface.0 ≡ Some j → (has_destroying_event j ≡ false) × ¬ IsFixedPlace iface.0
    made iface j there found = of_contained (λ k. (f : Iface) (x : Interface) → k ≡ kinds.NewByServer f
        → interface_at all f.0 ≡ Some x → (has_destroying_event x ≡ false) × ¬ IsFixedPlace f.0) m.kinds
        (kinds.NewByServer iface) (valid.server_makes.interfaces side place o m here) there iface j refl found

    by_rule : MessageBreaks all i side o m rule → ⊥
    by_rule (message_misnamed is never) = never (valid.names_distinct.messages_named side place o m here)
    by_rule (message_named_again earlier n is lt listed same) =
        let e = valid.names_distinct.messages_distinct place side earlier o n m
        (signature_from all place side earlier i n at listed) here same in
        omega (arith, e, lt)
    by_rule (message_beyond is le) = let most = valid.small.messages side place i at in omega (arith, most, le, within)
    by_rule (too_many_arguments is lt) =
        let most = valid.small.arguments side place o m here in omega (arith, most, lt)
    by_rule (event_makes is event lt) =
        let none = ap length (valid.few_objects_made.events place o m (as_side Event event)) in omega (arith, none, lt)
    by_rule (request_makes_two is request lt) =
        let most = valid.few_objects_made.requests place o m (as_side Request request) in omega (arith, most, lt)
    by_rule (new_without_interface is there) = elim (valid.unnamed_new_in_bind_alone place side o m here) [
      | inl bind ↦ no_bind bind
      | inr named ↦ of_contained (λ k. k ≡ kinds.New None → ⊥) m.kinds (kinds.New None) named there refl
    ]
    by_rule (object_of_any null is request there) =
        of_contained (λ k. (n : Bool) → k ≡ kinds.Obj n None → ⊥) m.kinds (kinds.Obj null None)
        (valid.no_any_in_requests place o m (as_side Request request)) there null refl
    by_rule (event_destroys is event destroys lt) =
        let listed : slice_get i.events o ≡ Some m = subst (λ (s : Side). message_of s o i ≡ Some m) event of in
        let ends = any_true (λ (e : MessageSignature). destroys_target e.destroys) i.events o m listed destroys in
        let none = ap length (valid.race_free.no_requests place i at ends) in
        omega (arith, none, lt)
    by_rule (object_of_ended null iface j is request there found ends) =
        let free = of_contained (λ k. (n : Bool) (f : Iface) (x : Interface) → k ≡ kinds.Obj n (Some f)
        → interface_at all f.0 ≡ Some x → has_destroying_event x ≡ false) m.kinds (kinds.Obj null (Some iface))
        (valid.race_free.no_arguments place o m (as_side Request request)) there null iface j refl found in
        let no : true ≡ false = sym ends ∙ free in cc no
    by_rule (since_below_one is lt) =
        let least = valid.sinces_in_range.from_one side place o m here in omega (arith, least, lt)
    by_rule (since_above_version is lt) =
        let most = valid.sinces_in_range.to_version place side o i m at here in omega (arith, most, lt)
    by_rule (interface_missing kind iface is there named le) =
        let lt = of_contained (λ k. (f : Iface) → named_interface k ≡ Some f → f.0 < length all) m.kinds kind
        (valid.interfaces_there side place o m here) there iface named in omega (arith, lt, le)
    by_rule (request_has_server_object is request lt) =
        let none = ap length (valid.server_makes.requests place o m (as_side Request request)) in
        omega (arith, none, lt)
    by_rule (event_has_two_server_objects is event lt) =
        let most = valid.server_makes.events place o m (as_side Event event) in omega (arith, most, lt)
    by_rule (server_object_of_ended iface j is there found ends) =
        let right = (made iface j there found).0 in let no : true ≡ false = sym ends ∙ right in cc no
    by_rule (server_object_of_fixed iface j is there found fixed) = (made iface j there found).1 fixed

-- no message that is added to valid tables is wl_registry.bind
not_bind : (tables : List Interface) (written : List WrittenInterface) → Valid tables → (line place : ℕ)
    (old i : Interface) (side : Side) (o : ℕ) (m : MessageSignature)
    → AddsMessage tables written line place old i side o m → IsBind place side o → ⊥
not_bind tables written valid line place old i side o m d bind =
    let at_one = subst (λ (p : ℕ). interface_at tables p ≡ Some old) bind.registry d.there in
    let registry = some_same _ old (sym valid.fixed_four.registry ∙ at_one) in
    let opcode = subst (λ (s : Side). o ≡ length (messages_of s old) + d.index) bind.request d.opcode_is in
    let one : length old.requests ≡ 1 = ap (λ (x : Interface). length x.requests) (sym registry) in
    let first = bind.bind in
    omega (arith, opcode, one, first)

-- if the extended tables are valid, no added message clashes with the tables before
none_clashes : (tables : List Interface) (written : List WrittenInterface) → Valid (extended tables written)
    → (line place : ℕ) (old i : Interface) (side : Side) (o : ℕ) (m : MessageSignature)
    → AddsMessage tables written line place old i side o m → (rule : ℕ) → Clashes tables place old side m rule → ⊥
none_clashes tables written valid line place old i side o m d rule (request_of_ended is request ends) =
    let there = stays tables written place old d.there in
    let one : there.interface ≡ i = some_same there.interface i (sym there.at ∙ d.stands) in
    let event = ends_at old.events ends in
    let still = there.messages Event event.0 event.1 event.2 in
    let now : has_destroying_event there.interface ≡ true =
    any_true (λ (e : MessageSignature). destroys_target e.destroys) there.interface.events event.0 event.1 still
    event.3 in
    let empty = valid.race_free.no_requests place i d.stands
    (subst (λ (x : Interface). has_destroying_event x ≡ true) one now) in
    let listed : slice_get i.requests o ≡ Some m = subst (λ (s : Side). message_of s o i ≡ Some m) request d.listed in
    let within = slice_get_within i.requests o m listed in
    let none = ap length empty in
    omega (arith, within, none)
  where
    ends_at : (events : List MessageSignature)
        → list_any (λ (e : MessageSignature). destroys_target e.destroys) events ≡ true
        → (k : ℕ) × (e : MessageSignature) × (slice_get events k ≡ Some e) × (destroys_target e.destroys ≡ true)
    ends_at events any = any_at (λ (e : MessageSignature). destroys_target e.destroys) events any
none_clashes tables written valid line place old i side o m d rule
    (ends_argument p opcode request null iface is event destroys at there here) =
    let listed : slice_get i.events o ≡ Some m = subst (λ (s : Side). message_of s o i ≡ Some m) event d.listed in
    let ends = any_true (λ (e : MessageSignature). destroys_target e.destroys) i.events o m listed destroys in
    let stands = subst (λ (n : ℕ). interface_at (extended tables written) n ≡ Some i) (sym here) d.stands in
    let free = of_contained (λ k. (n : Bool) (f : Iface) (x : Interface) → k ≡ kinds.Obj n (Some f)
    → interface_at (extended tables written) f.0 ≡ Some x → has_destroying_event x ≡ false) request.kinds
    (kinds.Obj null (Some iface)) (valid.race_free.no_arguments p opcode request
    (message_stays tables written p Request opcode request at)) there null iface i refl stands in
    let no : true ≡ false = sym ends ∙ free in
    cc no
none_clashes tables written valid line place old i side o m d rule
    (ends_server_object p opcode event iface is at_event destroys at there here) =
    let listed : slice_get i.events o ≡ Some m =
    subst (λ (s : Side). message_of s o i ≡ Some m) at_event d.listed in
    let ends = any_true (λ (e : MessageSignature). destroys_target e.destroys) i.events o m listed destroys in
    let stands = subst (λ (n : ℕ). interface_at (extended tables written) n ≡ Some i) (sym here) d.stands in
    let right = of_contained (λ k. (f : Iface) (x : Interface) → k ≡ kinds.NewByServer f
    → interface_at (extended tables written) f.0 ≡ Some x → (has_destroying_event x ≡ false) × ¬ IsFixedPlace f.0)
    event.kinds (kinds.NewByServer iface) (valid.server_makes.interfaces Event p opcode event
    (message_stays tables written p Event opcode event at)) there iface i refl stands in
    let no : true ≡ false = sym ends ∙ right.0 in
    cc no

none_in_valid : (tables : List Interface) (written : List WrittenInterface) → Valid tables
    → ExtendsRightly tables written → Valid (extended tables written) → NoLineBreaks tables written
none_in_valid tables written old rightly valid line rule (by_declared breaks) =
    let g = gathered tables written in
    (declared_least (grown tables g) g.declared).none (valid_unbroken (grown tables g) g.declared two valid) line rule
    breaks
  where
    two : 2 ≤ length (grown tables (gathered tables written))
    two =
        let within = slice_get_within tables 1 _ old.fixed_four.registry in
        let names = all_names tables (gathered tables written).declared in
        let len = length_grown (first_place names) (length names) tables (gathered tables written).added in
        omega (arith, within, len)
none_in_valid tables written old rightly valid line rule (by_added place before i side o m d breaks) =
    message_keeps (extended tables written) valid place i side o m d.stands d.listed
    (not_bind tables written old line place before i side o m d) rule breaks
none_in_valid tables written old rightly valid line rule (by_clash place before i side o m d clash) =
    none_clashes tables written valid line place before i side o m d rule clash
none_in_valid tables written old rightly valid line rule (by_extension g own d breaks) =
    rightly line rule g own d breaks

pub valid_line_unbroken : (tables : List Interface) (written : List WrittenInterface) → Valid tables
    → ExtendsRightly tables written → Valid (extended tables written) → first_line_broken tables written ≡ None
valid_line_unbroken tables written old rightly valid = by_found (first_line_broken tables written) refl
  where
    by_found : (o : Option Broken) → first_line_broken tables written ≡ o → o ≡ None
    by_found None is = refl
    by_found (Some witness) is = absurd (none_in_valid tables written old rightly valid witness.line witness.rule
        ((line_least tables written).found witness is))

pub unbroken : (tables : List Interface) (written : List WrittenInterface) → Valid tables
    → (first_line_broken tables written ≡ None)
    ↔ (ExtendsRightly tables written × Valid (extended tables written))
unbroken tables written valid = (
  λ none. (extends_rightly tables written none, extended_valid tables written valid none),
  λ both. valid_line_unbroken tables written valid both.0 both.1,
)
