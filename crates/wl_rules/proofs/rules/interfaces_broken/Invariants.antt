use Rattle.std.proofs.Common.{◌≡◌, take}
use Rattle.std.specs.Prelude.{option_map}
use Rattle.wl_rules.specs.Broken.{interfaces_broken}
use Rattle.wl_rules.specs.BrokenLines.{broken}
use Rattle.wl_rules.specs.Places.{place_in}
use Rattle.wl_rules.proofs.rules.interfaces_broken.Given as goal

abbrev pub invariant-loop-index : goal.invariant-loop-index
invariant-loop-index g l =
    option_map broken l.first ≡ interfaces_broken (place_in l.places) l.ended l.from (take l.index l.interfaces)
