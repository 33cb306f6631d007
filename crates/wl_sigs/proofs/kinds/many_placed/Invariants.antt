use Rattle.std.proofs.Common.{◌≡◌, map, take}
use Rattle.wl_sigs.specs.Joined.{kind_placed}
use Rattle.wl_sigs.specs.Places.{place_in}
use Rattle.wl_sigs.proofs.kinds.many_placed.Given as goal

-- the kinds so far are those of the arguments so far
abbrev pub invariant-kinds : goal.invariant-kinds
invariant-kinds g l = l.placed.items ≡ map (kind_placed (place_in l.places) l.past) (take l.kind-index l.kinds)
