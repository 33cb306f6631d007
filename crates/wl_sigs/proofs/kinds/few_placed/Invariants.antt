use Rattle.std.proofs.Common.{◌≡◌, length, map, take}
use Rattle.wl_sigs.specs.Joined.{kind_placed}
use Rattle.wl_sigs.specs.Places.{place_in}
use Rattle.wl_sigs.proofs.kinds.few_placed.Given as goal

-- the kinds so far, at the array's front, are those of the arguments so far
abbrev pub invariant-kinds : goal.invariant-kinds
invariant-kinds g l =
    (take l.place l.placed ≡ map (kind_placed (place_in l.places) l.past) (take l.place l.kinds))
    × (length l.placed ≡ 4)
