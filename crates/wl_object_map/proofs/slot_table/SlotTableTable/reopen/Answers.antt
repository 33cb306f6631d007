use Rattle.std.proofs.Common.{◌≡◌, ◌+◌, List, sym, ◌∙◌, ap, subst, arith, cond, eqb, Some, length, true}
use Rattle.std.proofs.lemmas.List.{with_items_is}
use Rattle.wl_object_map.specs.declared.slot_table.Slot.{Slot}
use Rattle.wl_object_map.specs.View.{View, is_held, has_room, opened_at}
use Rattle.wl_object_map.specs.Sounds.{Sound-reopened}
use Rattle.wl_object_map.specs.Slots.{slot_at, slot_of_entry, new_row, view_of, IsSoundChain}
use Rattle.wl_object_map.proofs.SlotViews.{holds_of, row_place, becomes_replaced}
use Rattle.wl_object_map.proofs.slot_table.SlotTableTable.reopen.Goals as goal

pub put-requires-clause-some : goal.put-requires-clause-some
put-requires-clause-some g c =
    let held = subst (λ (v : View). is_held v c.args.id ≡ true) (sym c.self.view_is) c.requires.held in
    (row_place c.self.inside.slots.items c.self.inside.first_free c.self.inside.free c.self.inside.births c.args.id
    c.self.invariant held).1.0

pub put-requires-clause-used : goal.put-requires-clause-used
put-requires-clause-used g c =
    let held = subst (λ (v : View). is_held v c.args.id ≡ true) (sym c.self.view_is) c.requires.held in
    let place = row_place c.self.inside.slots.items c.self.inside.first_free c.self.inside.free c.self.inside.births
    c.args.id c.self.invariant held in
    let used = place.1.1 in
    omega (arith, used, ap (length {A = Slot}) c.deref_mut.ensures.value)

pub invariant_of-self : goal.invariant_of-self
invariant_of-self g c =
    let value = c.deref_mut.ensures.value in
    let held = subst (λ (v : View). is_held v c.args.id ≡ true) (sym c.self.view_is) c.requires.held in
    let room = subst (λ (v : View). has_room v c.args.id ≡ true) (sym c.self.view_is) c.requires.room in
    let long : length c.put.new.slots ≡ length c.self.inside.slots.items =
    omega (arith, c.put.auto.slots, ap (length {A = Slot}) value) in
    let b = becomes_replaced c.self.inside.slots.items c.put.new.slots c.self.inside.first_free c.self.inside.free
    c.self.inside.births c.args.id c.args.iface c.args.version c.self.invariant held
    (λ q. c.put.ensures q ∙ ap (λ (s : Slot). cond (eqb q c.args.id) (Some s) (slot_at c.deref_mut.result.now q))
    c.live.ensures
    ∙ ap (λ (s : List Slot). cond (eqb q c.args.id)
    (Some (slot_of_entry (new_row c.self.inside.births c.args.iface c.args.version))) (slot_at s q)) value)
    long in
    let new = with_items_is c.self.inside.slots c.put.new.slots (omega (arith, c.self.inside.slots.ok.0)) in
    subst (λ (s : List Slot). IsSoundChain s c.self.inside.first_free c.self.inside.free (c.self.inside.births + 1))
    (sym new)
    (holds_of _ _ _ _ _ b (Sound-reopened _ c.args.id c.args.iface c.args.version c.self.invariant.sound held
    c.requires.not_display room))

pub returns-clause-table : goal.returns-clause-table
returns-clause-table g c =
    let value = c.deref_mut.ensures.value in
    let held = subst (λ (v : View). is_held v c.args.id ≡ true) (sym c.self.view_is) c.requires.held in
    let long : length c.put.new.slots ≡ length c.self.inside.slots.items =
    omega (arith, c.put.auto.slots, ap (length {A = Slot}) value) in
    let b = becomes_replaced c.self.inside.slots.items c.put.new.slots c.self.inside.first_free c.self.inside.free
    c.self.inside.births c.args.id c.args.iface c.args.version c.self.invariant held
    (λ q. c.put.ensures q ∙ ap (λ (s : Slot). cond (eqb q c.args.id) (Some s) (slot_at c.deref_mut.result.now q))
    c.live.ensures
    ∙ ap (λ (s : List Slot). cond (eqb q c.args.id)
    (Some (slot_of_entry (new_row c.self.inside.births c.args.iface c.args.version))) (slot_at s q)) value)
    long in
    let new = with_items_is c.self.inside.slots c.put.new.slots (omega (arith, c.self.inside.slots.ok.0)) in
    ap (λ (s : List Slot). view_of s c.self.inside.first_free c.self.inside.free (c.self.inside.births + 1)) new
    ∙ b.stands_for
    ∙ ap (λ (v : View). opened_at v c.args.id c.args.iface c.args.version) c.self.view_is
