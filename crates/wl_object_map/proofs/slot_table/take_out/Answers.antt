use Rattle.std.proofs.Common.{sym, ◌∙◌, ap, Some}
use Rattle.wl_object_map.specs.declared.slot_table.Slot.{Slot}
use Rattle.wl_object_map.proofs.Chain.{taken_out}
use Rattle.wl_object_map.proofs.slot_table.take_out.Goals as goal

pub returns-clause-chain : goal.returns-clause-chain
returns-clause-chain c =
    let free = c.in-Some-Free in
    let at = sym c.slot_of.ensures ∙ free.is ∙ ap (λ (s : Slot). Some s) free.field-0-is in
    λ ids chain stands. taken_out c.args.slots.now c.set_older.new.slots c.set_newer.new.slots c.args.first.now
    c.set_older.new.first c.args.id _ _ ids chain stands at c.set_older.ensures.slots c.set_newer.ensures
    c.set_older.ensures.first
