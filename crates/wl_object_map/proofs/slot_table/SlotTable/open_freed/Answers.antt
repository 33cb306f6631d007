use Rattle.std.proofs.Common.{◌≡◌, ◌<◌, ◌+◌, ◌-◌, List, sym, ◌∙◌, ap, subst, true, arith, cond, eqb, Some, length}
use Rattle.std.proofs.lemmas.List.{with_items_is}
use Rattle.wl_object_map.specs.declared.slot_table.Slot.{Slot}
use Rattle.std.specs.Vec.{with_items}
use Rattle.wl_object_map.specs.View.{View, opened_at, has_room, times}
use Rattle.wl_object_map.specs.Sounds.{Sound-opened_at}
use Rattle.wl_object_map.specs.Slots.{slot_at, slot_of_entry, new_row, row_at, view_of, IsChain, IsSoundChain}
use Rattle.wl_object_map.proofs.SlotViews.{holds_of, becomes_reopened, chained_is_free}
use Rattle.wl_object_map.proofs.slot_table.SlotTable.open_freed.Goals as goal

pub invariant_of-self : goal.invariant_of-self
invariant_of-self g c =
    let value = c.deref_mut.ensures.value in
    let mid = c.deref_mut-2.ensures.value ∙ with_items_is c.self.inside.slots c.take_out.new.slots
    (omega (arith, c.take_out.auto.slots)) in
    let stands = subst (λ (v : View). 0 < times c.args.id v.freed) (sym c.self.view_is) c.requires.freed in
    let long : length c.put.new.slots ≡ length c.self.inside.slots.items =
    omega (arith, c.take_out.auto.slots, c.put.auto.slots, ap (length {A = Slot}) mid) in
    let b = becomes_reopened c.self.inside.slots.items c.take_out.new.slots c.put.new.slots c.self.inside.first_free
    c.take_out.new.first c.self.inside.free c.self.inside.births c.args.id c.args.iface c.args.version
    c.self.invariant stands
    (λ ids chain in_it. c.take_out.ensures.chain ids
    (subst (λ (s : List Slot). IsChain s c.self.inside.first_free ids) (sym value) chain) in_it)
    (λ q. c.take_out.ensures.rows q ∙ ap (λ (s : List Slot). row_at s q) value)
    (λ q. c.put.ensures q ∙ ap (λ (s : Slot). cond (eqb q c.args.id) (Some s) (slot_at c.deref_mut-2.result.now q))
    c.live.ensures
    ∙ ap (λ (s : List Slot). cond (eqb q c.args.id)
    (Some (slot_of_entry (new_row c.self.inside.births c.args.iface c.args.version))) (slot_at s q)) mid)
    long in
    let room = subst (λ (v : View). has_room v c.args.id ≡ true) (sym c.self.view_is) c.requires.room in
    let new = with_items_is (with_items c.self.inside.slots c.take_out.new.slots) c.put.new.slots
    (omega (arith, c.self.inside.slots.ok.0)) in
    subst (λ (s : List Slot). IsSoundChain s c.take_out.new.first (c.self.inside.free - 1) (c.self.inside.births + 1))
    (sym new)
    (holds_of _ _ _ _ _ b (Sound-opened_at _ _ c.args.iface c.args.version c.self.invariant.sound
    (chained_is_free (view_of c.self.inside.slots.items c.self.inside.first_free c.self.inside.free
    c.self.inside.births) c.args.id stands) room))

pub returns-clause-table : goal.returns-clause-table
returns-clause-table g c =
    let value = c.deref_mut.ensures.value in
    let mid = c.deref_mut-2.ensures.value ∙ with_items_is c.self.inside.slots c.take_out.new.slots
    (omega (arith, c.take_out.auto.slots)) in
    let stands = subst (λ (v : View). 0 < times c.args.id v.freed) (sym c.self.view_is) c.requires.freed in
    let long : length c.put.new.slots ≡ length c.self.inside.slots.items =
    omega (arith, c.take_out.auto.slots, c.put.auto.slots, ap (length {A = Slot}) mid) in
    let b = becomes_reopened c.self.inside.slots.items c.take_out.new.slots c.put.new.slots c.self.inside.first_free
    c.take_out.new.first c.self.inside.free c.self.inside.births c.args.id c.args.iface c.args.version
    c.self.invariant stands
    (λ ids chain in_it. c.take_out.ensures.chain ids
    (subst (λ (s : List Slot). IsChain s c.self.inside.first_free ids) (sym value) chain) in_it)
    (λ q. c.take_out.ensures.rows q ∙ ap (λ (s : List Slot). row_at s q) value)
    (λ q. c.put.ensures q ∙ ap (λ (s : Slot). cond (eqb q c.args.id) (Some s) (slot_at c.deref_mut-2.result.now q))
    c.live.ensures
    ∙ ap (λ (s : List Slot). cond (eqb q c.args.id)
    (Some (slot_of_entry (new_row c.self.inside.births c.args.iface c.args.version))) (slot_at s q)) mid)
    long in
    let new = with_items_is (with_items c.self.inside.slots c.take_out.new.slots) c.put.new.slots
    (omega (arith, c.self.inside.slots.ok.0)) in
    ap (λ (s : List Slot). view_of s c.take_out.new.first (c.self.inside.free - 1) (c.self.inside.births + 1)) new
    ∙ b.stands_for
    ∙ ap (λ (v : View). opened_at v c.args.id c.args.iface c.args.version) c.self.view_is
