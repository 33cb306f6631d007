use Rattle.std.proofs.Common.{List, ◌∷◌, ◌++◌, [], sym, ◌∙◌, ap, subst}
use Rattle.wl_object_map.specs.declared.slot_table.Slot.{Slot}
use Rattle.wl_object_map.specs.View.{opening}
use Rattle.wl_object_map.specs.Sounds.{Sound-opening}
use Rattle.wl_object_map.specs.Slots.{IsSoundChain}
use Rattle.wl_object_map.proofs.SlotViews.{holds_of, becomes_opening}
use Rattle.wl_object_map.proofs.slot_table.SlotTableTable.new.Goals as goal

pub invariant_of-result : goal.invariant_of-result
invariant_of-result g c =
    let e = c.push_reserved.ensures.items ∙ ap (λ (s : List Slot). s ++ c.live.result ∷ []) c.in_ok-slots.ensures.items
    ∙ ap (λ (s : Slot). s ∷ []) c.live.ensures in
    subst (λ (s : List Slot). IsSoundChain s 0 0 1) (sym e)
    (holds_of _ 0 0 1 (opening c.args.display) (becomes_opening c.args.display) (Sound-opening c.args.display))
