use Rattle.std.proofs.Common.{◌≡◌, true, not, take}
use Rattle.std.specs.List.{list_all}
use Rattle.wl_rules.specs.Broken.{makes_forbidden}
use Rattle.wl_rules.specs.Places.{place_in}
use Rattle.wl_rules.proofs.rules.none_forbidden.Given as goal

abbrev pub invariant-kinds : goal.invariant-kinds
invariant-kinds g l = list_all (λ k. not (makes_forbidden (place_in l.places) l.ended k)) (take l.k-index l.kinds) ≡ true
