use Rattle.std.proofs.Common.{◌≡◌}
use Rattle.std.specs.Prelude.{option_map}
use Rattle.wl_rules.specs.BrokenLines.{broken}
use Rattle.wl_rules.specs.Extended.{gathered_from}
use Rattle.wl_rules.specs.Extending.{extensions_broken}
use Rattle.wl_rules.proofs.extending.gather.Given as goal

abbrev pub invariant-loop-next : goal.invariant-loop-next
invariant-loop-next g l = (l.all ≡ gathered_from l.fn.gathered l.yielded)
    × (option_map broken l.first ≡ extensions_broken l.fn.gathered l.yielded)
