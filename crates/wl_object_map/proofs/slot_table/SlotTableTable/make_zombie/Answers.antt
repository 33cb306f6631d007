use Rattle.std.proofs.Common.{◌≡◌, List, sym, ◌∙◌, ap, subst, arith, cond, eqb, Some, length}
use Rattle.std.proofs.lemmas.List.{with_items_is}
use Rattle.wl_object_map.specs.declared.slot_table.Slot.{Slot}
use Rattle.wl_object_map.specs.View.{View, look, zombie, zombied}
use Rattle.wl_object_map.specs.Sounds.{Sound-zombied}
use Rattle.wl_object_map.specs.Slots.{slot_at, slot_of_entry, view_of, IsSoundChain}
use Rattle.wl_object_map.proofs.SlotRows.{get_row, row_slot, slot_used}
use Rattle.wl_object_map.proofs.SlotViews.{holds_of, becomes_zombied}
use Rattle.wl_object_map.proofs.slot_table.SlotTableTable.make_zombie.Goals as goal

pub put-requires-clause-used : goal.put-requires-clause-used
put-requires-clause-used g c =
    let at = row_slot (slot_at c.self.inside.slots.items c.args.id) c.in-Some.entry
    (sym (get_row c.self.inside.slots.items c.args.id) ∙ ap (λ (v : View). look v c.args.id) c.self.view_is
    ∙ sym c.look.ensures.entry ∙ c.in-Some.is) in
    let used = slot_used c.self.inside.slots.items c.args.id _ at in
    omega (arith, ap (length {A = Slot}) c.deref_mut.ensures.value)

pub invariant_of-self : goal.invariant_of-self
invariant_of-self g c =
    let value = c.deref_mut.ensures.value in
    let at = row_slot (slot_at c.self.inside.slots.items c.args.id) c.in-Some.entry
    (sym (get_row c.self.inside.slots.items c.args.id) ∙ ap (λ (v : View). look v c.args.id) c.self.view_is
    ∙ sym c.look.ensures.entry ∙ c.in-Some.is) in
    let long : length c.put.new.slots ≡ length c.self.inside.slots.items =
    omega (arith, c.put.auto.slots, ap (length {A = Slot}) value) in
    let b = becomes_zombied c.self.inside.slots.items c.put.new.slots c.self.inside.first_free c.self.inside.free
    c.self.inside.births c.args.id c.in-Some.entry c.self.invariant at
    (λ q. c.put.ensures q ∙ ap (λ (s : List Slot). cond (eqb q c.args.id)
    (Some (slot_of_entry (zombie c.in-Some.entry)))
    (slot_at s q)) value)
    long in
    let new = with_items_is c.self.inside.slots c.put.new.slots (omega (arith, c.self.inside.slots.ok.0)) in
    subst (λ (s : List Slot). IsSoundChain s c.self.inside.first_free c.self.inside.free c.self.inside.births) (sym new)
    (holds_of _ _ _ _ _ b (Sound-zombied _ c.args.id c.self.invariant.sound c.requires.not_display))

pub returns : goal.returns
returns g c =
    let value = c.deref_mut.ensures.value in
    let at = row_slot (slot_at c.self.inside.slots.items c.args.id) c.in-Some.entry
    (sym (get_row c.self.inside.slots.items c.args.id) ∙ ap (λ (v : View). look v c.args.id) c.self.view_is
    ∙ sym c.look.ensures.entry ∙ c.in-Some.is) in
    let long : length c.put.new.slots ≡ length c.self.inside.slots.items =
    omega (arith, c.put.auto.slots, ap (length {A = Slot}) value) in
    let b = becomes_zombied c.self.inside.slots.items c.put.new.slots c.self.inside.first_free c.self.inside.free
    c.self.inside.births c.args.id c.in-Some.entry c.self.invariant at
    (λ q. c.put.ensures q ∙ ap (λ (s : List Slot). cond (eqb q c.args.id)
    (Some (slot_of_entry (zombie c.in-Some.entry)))
    (slot_at s q)) value)
    long in
    let new = with_items_is c.self.inside.slots c.put.new.slots (omega (arith, c.self.inside.slots.ok.0)) in
    ap (λ (s : List Slot). view_of s c.self.inside.first_free c.self.inside.free c.self.inside.births) new
    ∙ b.stands_for
    ∙ ap (λ (v : View). zombied v c.args.id) c.self.view_is
