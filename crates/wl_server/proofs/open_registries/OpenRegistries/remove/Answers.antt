use Rattle.std.proofs.Common.{◌≡◌, ◌+◌, ◌<◌, ◌≤◌, ℕ, true, false, List, length, take, set, get_or, refl, sym, ap}
use Rattle.std.proofs.Common.{subst, ◌∙◌, arith, rules, length-set}
use Rattle.std.specs.Prelude.{Result}
use Rattle.std.specs.declared.result.Result.TheVariants.{Ok, Err}
use Rattle.std.proofs.lemmas.Bool.Decides.{nat_tests}
use Rattle.std.proofs.lemmas.List.{set-get_or}
use Rattle.wl_object_map.specs.declared.object.Object.{Object}
use Rattle.std.proofs.lemmas.Fn.{always_returns_same}
use Rattle.wl_server.specs.declared.registry.RegistrySlot.{RegistrySlot}
use Rattle.wl_server.specs.State.{Registry}
use Rattle.wl_server.specs.Registries.{without_object}
use Rattle.wl_server.specs.Announcing.{owed_in}
use Rattle.wl_server.specs.Slots.{KeptRegistries, SlotsRise, open_in, settled_in}
use Rattle.wl_server.proofs.Slots.{IsAnswer, birth_in, fewer-open, found, not-found, other-id, past-set}
use Rattle.wl_server.proofs.Slots.{rise-set, same-slot}
use Rattle.wl_server.proofs.Slots.{settled-shut, without-closed}
use Rattle.wl_server.proofs.open_registries.OpenRegistries.remove.Goals as goal

-- the facts about the slots still hold after one of them is closed
shut-keeps : (slots : List RegistrySlot) (closed settled place : ℕ) (slot other : RegistrySlot) → SlotsRise 0 slots
    → closed + length (open_in slots) ≡ length slots → settled ≤ length slots → place < length slots
    → slot ≡ get_or slots place slot → other ≡ get_or slots place other → other.is_open ≡ true
    → record {
      rising : SlotsRise 0 (set slots place (record { registry = slot.registry; is_open = false }));
      closed : closed + 1 + length (open_in (set slots place (record { registry = slot.registry; is_open = false })))
          ≡ length (set slots place (record { registry = slot.registry; is_open = false }));
      settled : settled ≤ length (set slots place (record { registry = slot.registry; is_open = false }));
    }
shut-keeps slots closed settled place slot other rising count front within here there is =
    let shut : RegistrySlot = record { registry = slot.registry; is_open = false } in
    let was : slot.is_open ≡ true =
    ap (λ (s : RegistrySlot). s.is_open) (same-slot slots place slot other within here there) ∙ is in
    record {
      rising = rise-set 0 slots place slot shut rising here refl;
      closed = omega (
        arith,
        count,
        fewer-open slots place slot shut within here was refl,
        length-set slots place shut,
      );
      settled = omega (arith, front, length-set slots place shut);
    }

-- the slot that was found by birth is the object's if it has the object's id
the-object : (slots : List RegistrySlot) (place : ℕ) (slot other : RegistrySlot) (object : Object) → place < length slots
    → slot ≡ get_or slots place slot → other ≡ get_or slots place other
    → other.registry.object.id ≡ object.id → birth_in slot ≡ object.birth → slot.registry.object ≡ object
the-object slots place slot other object within here there id birth =
    let same = same-slot slots place slot other within here there in
    λ i. record {
      id = (ap (λ (s : RegistrySlot). s.registry.object.id) same ∙ id) i;
      birth = birth i;
    }

pub returns-in_default-clause-list : goal.returns-in_default-clause-list
returns-in_default-clause-list g c =
    let slots = c.self.inside.slots.items in
    let object = c.args.object in
    let birth = object.birth in
    let answer : IsAnswer birth slots (Err c.in_default.field-0) =
    subst (λ (r : Result ℕ ℕ). IsAnswer birth slots r) c.in_default.is
    (subst (λ (l : List RegistrySlot). IsAnswer birth l c.binary_search_by_key-found.result) c.deref.ensures.value
    (c.binary_search_by_key-found.ensures.position birth_in (always_returns_same _ _ _ (λ a r f' k. search rules)))) in
    subst (λ (rs : List Registry). rs ≡ without_object true object rs)
    (ap (λ (k : KeptRegistries). k.list) c.self.view_is)
    (not-found object 0 slots c.in_default.field-0 c.self.invariant.rising answer)

pub returns-then-index-object-clause-list : goal.returns-then-index-object-clause-list
returns-then-index-object-clause-list g c =
    let slots = c.self.inside.slots.items in
    let object = c.args.object in
    let birth = object.birth in
    let place = c.in-Ok.place in
    let slot = c.index.result.now in
    let answer : IsAnswer birth slots (Ok place) =
    subst (λ (r : Result ℕ ℕ). IsAnswer birth slots r) c.in-Ok.is
    (subst (λ (l : List RegistrySlot). IsAnswer birth l c.binary_search_by_key-found.result) c.deref.ensures.value
    (c.binary_search_by_key-found.ensures.position birth_in (always_returns_same _ _ _ (λ a r f' k. search rules)))) in
    let within : place < length slots = omega (arith, c.in-Ok.ensures.bound, ap length c.deref.ensures.value) in
    subst (λ (rs : List Registry). rs ≡ without_object true object rs)
    (ap (λ (k : KeptRegistries). k.list) c.self.view_is)
    (other-id object 0 slots place slot c.self.invariant.rising within c.index.ensures
    (found birth slots place slot answer c.index.ensures)
    (λ id. (let test = c.if-index-object.true in grind (arith, nat_tests, id, test))))

pub returns-then-not-index-clause-list : goal.returns-then-not-index-clause-list
returns-then-not-index-clause-list g c =
    let slots = c.self.inside.slots.items in
    let object = c.args.object in
    let birth = object.birth in
    let place = c.in-Ok.place in
    let slot = c.index-2.result.now in
    let answer : IsAnswer birth slots (Ok place) =
    subst (λ (r : Result ℕ ℕ). IsAnswer birth slots r) c.in-Ok.is
    (subst (λ (l : List RegistrySlot). IsAnswer birth l c.binary_search_by_key-found.result) c.deref.ensures.value
    (c.binary_search_by_key-found.ensures.position birth_in (always_returns_same _ _ _ (λ a r f' k. search rules)))) in
    let within : place < length slots = omega (arith, c.in-Ok.ensures.bound, ap length c.deref.ensures.value) in
    let same : set slots place slot ≡ slots = ap (set slots place) c.index-2.ensures ∙ set-get_or slots place slot in
    let test = c.if-index-object.false in
    let id : c.index.result.now.registry.object.id ≡ object.id = grind (arith, nat_tests, test) in
    subst (λ (rs : List Registry). rs ≡ without_object true object rs)
    (ap (λ (k : KeptRegistries). k.list) c.self.view_is)
    (ap open_in (sym same) ∙ without-closed object 0 slots place slot slot c.self.invariant.rising within
    c.index-2.ensures (the-object slots place slot c.index.result.now object within c.index-2.ensures c.index.ensures id
    (found birth slots place slot answer c.index-2.ensures)) c.if-not-index.true)

pub invariant_of-self : goal.invariant_of-self
invariant_of-self g c =
    let slots = c.self.inside.slots.items in
    let within : c.in-Ok.place < length slots =
    omega (arith, c.in-Ok.ensures.bound, ap length c.deref.ensures.value) in
    shut-keeps slots c.self.inside.closed c.self.inside.settled c.in-Ok.place c.index_mut.result.now
    c.index-2.result.now c.self.invariant.rising c.self.invariant.closed c.self.invariant.settled within
    c.index_mut.ensures.value c.index-2.ensures c.if-not-index.false

pub invariant_of-self-else-self-len : goal.invariant_of-self-else-self-len
invariant_of-self-else-self-len g c =
    let slots = c.self.inside.slots.items in
    let within : c.in-Ok.place < length slots =
    omega (arith, c.in-Ok.ensures.bound, ap length c.deref.ensures.value) in
    shut-keeps slots c.self.inside.closed c.self.inside.settled c.in-Ok.place c.index_mut.result.now
    c.index-2.result.now c.self.invariant.rising c.self.invariant.closed c.self.invariant.settled within
    c.index_mut.ensures.value c.index-2.ensures c.if-not-index.false

pub returns-then-self-len-clause-list : goal.returns-then-self-len-clause-list
returns-then-self-len-clause-list g c =
    let slots = c.self.inside.slots.items in
    let object = c.args.object in
    let birth = object.birth in
    let place = c.in-Ok.place in
    let slot = c.index_mut.result.now in
    let answer : IsAnswer birth slots (Ok place) =
    subst (λ (r : Result ℕ ℕ). IsAnswer birth slots r) c.in-Ok.is
    (subst (λ (l : List RegistrySlot). IsAnswer birth l c.binary_search_by_key-found.result) c.deref.ensures.value
    (c.binary_search_by_key-found.ensures.position birth_in (always_returns_same _ _ _ (λ a r f' k. search rules)))) in
    let within : place < length slots = omega (arith, c.in-Ok.ensures.bound, ap length c.deref.ensures.value) in
    let test = c.if-index-object.false in
    let id : c.index.result.now.registry.object.id ≡ object.id = grind (arith, nat_tests, test) in
    c.compact.ensures.list
    ∙ without-closed object 0 slots place slot (record { registry = slot.registry; is_open = false })
    c.self.invariant.rising within c.index_mut.ensures.value
    (the-object slots place slot c.index.result.now object within c.index_mut.ensures.value c.index.ensures id
    (found birth slots place slot answer c.index_mut.ensures.value)) refl
    ∙ ap (λ (k : KeptRegistries). without_object true object k.list) c.self.view_is

pub returns-then-self-len-clause-settled : goal.returns-then-self-len-clause-settled
returns-then-self-len-clause-settled g c globals none =
    let slots = c.self.inside.slots.items in
    let shut : RegistrySlot = record { registry = c.index_mut.result.now.registry; is_open = false } in
    (λ i. owed_in globals (take (c.compact.ensures.settled i) (c.compact.ensures.list i)))
    ∙ settled-shut globals c.self.inside.settled slots c.in-Ok.place shut refl
    (ap (λ (k : KeptRegistries). owed_in globals (settled_in k)) c.self.view_is ∙ none)

pub returns-then-self-len-clause-past : goal.returns-then-self-len-clause-past
returns-then-self-len-clause-past g c =
    let slots = c.self.inside.slots.items in
    let shut : RegistrySlot = record { registry = c.index_mut.result.now.registry; is_open = false } in
    omega (
      arith,
      c.compact.ensures.past,
      past-set slots c.in-Ok.place c.index_mut.result.now shut c.index_mut.ensures.value refl,
      ap (λ (k : KeptRegistries). k.past) c.self.view_is,
    )

pub returns-else-self-len-clause-list : goal.returns-else-self-len-clause-list
returns-else-self-len-clause-list g c =
    let slots = c.self.inside.slots.items in
    let object = c.args.object in
    let birth = object.birth in
    let place = c.in-Ok.place in
    let slot = c.index_mut.result.now in
    let answer : IsAnswer birth slots (Ok place) =
    subst (λ (r : Result ℕ ℕ). IsAnswer birth slots r) c.in-Ok.is
    (subst (λ (l : List RegistrySlot). IsAnswer birth l c.binary_search_by_key-found.result) c.deref.ensures.value
    (c.binary_search_by_key-found.ensures.position birth_in (always_returns_same _ _ _ (λ a r f' k. search rules)))) in
    let within : place < length slots = omega (arith, c.in-Ok.ensures.bound, ap length c.deref.ensures.value) in
    let test = c.if-index-object.false in
    let id : c.index.result.now.registry.object.id ≡ object.id = grind (arith, nat_tests, test) in
    without-closed object 0 slots place slot (record { registry = slot.registry; is_open = false })
    c.self.invariant.rising within c.index_mut.ensures.value
    (the-object slots place slot c.index.result.now object within c.index_mut.ensures.value c.index.ensures id
    (found birth slots place slot answer c.index_mut.ensures.value)) refl
    ∙ ap (λ (k : KeptRegistries). without_object true object k.list) c.self.view_is

pub returns-else-self-len-clause-settled : goal.returns-else-self-len-clause-settled
returns-else-self-len-clause-settled g c globals none =
    let slots = c.self.inside.slots.items in
    let shut : RegistrySlot = record { registry = c.index_mut.result.now.registry; is_open = false } in
    settled-shut globals c.self.inside.settled slots c.in-Ok.place shut refl
    (ap (λ (k : KeptRegistries). owed_in globals (settled_in k)) c.self.view_is ∙ none)

pub returns-else-self-len-clause-past : goal.returns-else-self-len-clause-past
returns-else-self-len-clause-past g c =
    let slots = c.self.inside.slots.items in
    let shut : RegistrySlot = record { registry = c.index_mut.result.now.registry; is_open = false } in
    omega (
      arith,
      past-set slots c.in-Ok.place c.index_mut.result.now shut c.index_mut.ensures.value refl,
      ap (λ (k : KeptRegistries). k.past) c.self.view_is,
    )
