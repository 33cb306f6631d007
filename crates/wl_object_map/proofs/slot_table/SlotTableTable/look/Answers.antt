use Rattle.std.proofs.Common.{sym, ◌∙◌, ap, Some}
use Rattle.wl_object_map.specs.declared.slot_table.Slot.{Slot}
use Rattle.wl_object_map.specs.View.{View, look}
use Rattle.wl_object_map.specs.Slots.{row_in}
use Rattle.wl_object_map.proofs.SlotRows.{row_read}
use Rattle.wl_object_map.proofs.slot_table.SlotTableTable.look.Goals as goal

pub returns-in-Row-clause-entry : goal.returns-in-Row-clause-entry
returns-in-Row-clause-entry g c =
    let place = c.in_ok-checked_sub in
    let slot = c.in_ok-slot in
    ap (λ (s : Slot). row_in (Some s)) (sym c.in-Row.is)
    ∙ row_read c.self.inside.slots.items c.deref.result.now c.args.id place.field-0 slot.slot.now c.deref.ensures.value
    place.ensures.0 place.ensures.1 slot.ensures.lookup.3.0 slot.ensures.lookup.1
    ∙ ap (λ (v : View). look v c.args.id) c.self.view_is

pub returns-in-Free-clause-entry : goal.returns-in-Free-clause-entry
returns-in-Free-clause-entry g c =
    let place = c.in_ok-checked_sub in
    let slot = c.in_ok-slot in
    ap (λ (s : Slot). row_in (Some s)) (sym c.in-Free.is)
    ∙ row_read c.self.inside.slots.items c.deref.result.now c.args.id place.field-0 slot.slot.now c.deref.ensures.value
    place.ensures.0 place.ensures.1 slot.ensures.lookup.3.0 slot.ensures.lookup.1
    ∙ ap (λ (v : View). look v c.args.id) c.self.view_is
