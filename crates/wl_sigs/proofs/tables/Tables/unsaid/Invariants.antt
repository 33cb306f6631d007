use Rattle.std.proofs.Common.{◌≡◌, map, take}
use Rattle.wl_sigs.specs.Extended.{unsaid}
use Rattle.wl_sigs.proofs.tables.Tables.unsaid.Given as goal

abbrev pub invariant-loop-entry : goal.invariant-loop-entry
invariant-loop-entry g l = l.added.items ≡ map unsaid (take l.entry-index l.entry-items)
