use Rattle.std.proofs.Common.{◌≡◌, ℕ, List, take}
use Rattle.wl_rules.specs.Joined.{first_place}
use Rattle.wl_rules.specs.Places.{mapped_place}
use Rattle.wl_rules.proofs.places.places_of.Given as goal

abbrev pub invariant-loop-place : goal.invariant-loop-place
invariant-loop-place g l =
    (name : List ℕ) → mapped_place l.places name ≡ first_place (take l.place l.names) name
