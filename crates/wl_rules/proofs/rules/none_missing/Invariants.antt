use Rattle.std.proofs.Common.{◌≡◌, true, not, take}
use Rattle.std.specs.List.{list_all}
use Rattle.wl_rules.specs.Broken.{names_missing}
use Rattle.wl_rules.specs.Places.{place_in}
use Rattle.wl_rules.proofs.rules.none_missing.Given as goal

abbrev pub invariant-kinds : goal.invariant-kinds
invariant-kinds g l = list_all (λ k. not (names_missing (place_in l.places) k)) (take l.k-index l.kinds) ≡ true
