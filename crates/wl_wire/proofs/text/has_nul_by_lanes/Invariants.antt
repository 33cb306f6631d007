use Rattle.std.proofs.Common.{◌≡◌, ◌-◌, ◌≤◌, false, length, take}
use Rattle.wl_wire.specs.Spelling.{has_nul}
use Rattle.wl_wire.proofs.text.has_nul_by_lanes.Given as goal

abbrev pub invariant-lanes : goal.invariant-lanes
invariant-lanes l = record { within : l.at ≤ length l.text; none : has_nul (take l.at l.text) ≡ false }

abbrev pub decreases-lanes : goal.decreases-lanes
decreases-lanes l = length l.text - l.at
