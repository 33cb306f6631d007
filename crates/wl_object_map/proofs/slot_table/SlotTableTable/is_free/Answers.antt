use Rattle.std.proofs.Common.{◌≡◌, ◌∙◌, ap, Some}
use Rattle.wl_object_map.specs.declared.object.Entry.{Entry}
use Rattle.wl_object_map.specs.declared.slot_table.Slot.TheVariants.{Row, Free}
use Rattle.wl_object_map.specs.View.{View, free_or_next}
use Rattle.wl_object_map.specs.Slots.{slot_at}
use Rattle.wl_object_map.proofs.SlotViews.{row_not_free, free_is_free}
use Rattle.wl_object_map.proofs.slot_table.SlotTableTable.is_free.Goals as goal

pub returns-in-Some-Row : goal.returns-in-Some-Row
returns-in-Some-Row g c =
    let row = c.in-Some-Row in
    let at : slot_at c.self.inside.slots.items c.args.id
    ≡ Some (Row row.field-0-0 row.field-0-1 row.field-0-2 row.field-0-3) = cc in
    let e : Entry = record {
      birth = row.field-0-0;
      iface = row.field-0-2;
      version = row.field-0-1;
      state = row.field-0-3;
    } in
    row_not_free _ _ _ _ c.args.id e c.self.invariant at ∙ ap (λ (v : View). free_or_next v c.args.id) c.self.view_is

pub returns-in-Some-Free : goal.returns-in-Some-Free
returns-in-Some-Free g c =
    let at : slot_at c.self.inside.slots.items c.args.id
    ≡ Some (Free c.in-Some-Free.field-0-0 c.in-Some-Free.field-0-1) = cc in
    free_is_free _ _ _ _ c.args.id _ _ c.self.invariant at ∙ ap (λ (v : View). free_or_next v c.args.id) c.self.view_is
