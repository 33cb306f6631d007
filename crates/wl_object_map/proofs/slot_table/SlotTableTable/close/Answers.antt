use Rattle.std.proofs.Common.{◌≡◌, ◌+◌, List, sym, ◌∙◌, ap, subst, true, arith, cond, eqb, None, length}
use Rattle.std.proofs.lemmas.Grind.{common_steps}
use Rattle.std.proofs.lemmas.List.{with_items_is}
use Rattle.wl_object_map.specs.declared.slot_table.Slot.{Slot}
use Rattle.wl_object_map.specs.View.{View, is_held, closed}
use Rattle.wl_object_map.specs.Sounds.{Sound-closed}
use Rattle.wl_object_map.specs.Slots.{row_at, view_of, IsChain, IsSoundChain}
use Rattle.wl_object_map.proofs.SlotViews.{holds_of, becomes_closed, counted}
use Rattle.wl_object_map.proofs.slot_table.SlotTableTable.close.Goals as goal

pub overflow_add-self : goal.overflow_add-self
overflow_add-self g c = let n = counted _ _ _ _ c.self.invariant in let m = c.self.invariant.sound.ids_end
    in grind (arith, common_steps, n, m)

pub invariant_of-self : goal.invariant_of-self
invariant_of-self g c =
    let value = c.deref_mut.ensures.value in
    let held = subst (λ (v : View). is_held v c.args.id ≡ true) (sym c.self.view_is) c.requires.held in
    let long : length c.put_first.new.slots ≡ length c.self.inside.slots.items =
    omega (arith, c.put_first.auto.slots, ap (length {A = Slot}) value) in
    let b = becomes_closed c.self.inside.slots.items c.put_first.new.slots c.self.inside.first_free
    c.put_first.new.first c.self.inside.free c.self.inside.births c.args.id c.self.invariant held
    (λ ids chain out. c.put_first.ensures.chain ids
    (subst (λ (s : List Slot). IsChain s c.self.inside.first_free ids) (sym value) chain) out)
    (λ q. c.put_first.ensures.rows q ∙ ap (λ (s : List Slot). cond (eqb q c.args.id) None (row_at s q)) value)
    long in
    let new = with_items_is c.self.inside.slots c.put_first.new.slots (omega (arith, c.self.inside.slots.ok.0)) in
    subst (λ (s : List Slot). IsSoundChain s c.put_first.new.first (c.self.inside.free + 1) c.self.inside.births)
    (sym new)
    (holds_of _ _ _ _ _ b (Sound-closed _ c.args.id c.self.invariant.sound held c.requires.not_display))

pub returns : goal.returns
returns g c =
    let value = c.deref_mut.ensures.value in
    let held = subst (λ (v : View). is_held v c.args.id ≡ true) (sym c.self.view_is) c.requires.held in
    let long : length c.put_first.new.slots ≡ length c.self.inside.slots.items =
    omega (arith, c.put_first.auto.slots, ap (length {A = Slot}) value) in
    let b = becomes_closed c.self.inside.slots.items c.put_first.new.slots c.self.inside.first_free
    c.put_first.new.first c.self.inside.free c.self.inside.births c.args.id c.self.invariant held
    (λ ids chain out. c.put_first.ensures.chain ids
    (subst (λ (s : List Slot). IsChain s c.self.inside.first_free ids) (sym value) chain) out)
    (λ q. c.put_first.ensures.rows q ∙ ap (λ (s : List Slot). cond (eqb q c.args.id) None (row_at s q)) value)
    long in
    let new = with_items_is c.self.inside.slots c.put_first.new.slots (omega (arith, c.self.inside.slots.ok.0)) in
    ap (λ (s : List Slot). view_of s c.put_first.new.first (c.self.inside.free + 1) c.self.inside.births) new
    ∙ b.stands_for
    ∙ ap (λ (v : View). closed v c.args.id) c.self.view_is
