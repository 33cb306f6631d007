use Rattle.std.proofs.Common.{◌≡◌, ◌-◌, ◌≤◌, false, length, take}
use Rattle.wl_wire.specs.Spelling.{has_nul}
use Rattle.wl_wire.proofs.text.has_nul_by_blocks.Given as goal

abbrev pub invariant-blocks-2 : goal.invariant-blocks-2
invariant-blocks-2 l = record { within : l.at ≤ length l.text; none : has_nul (take l.at l.text) ≡ false }

abbrev pub decreases-blocks-2 : goal.decreases-blocks-2
decreases-blocks-2 l = length l.text - l.at
