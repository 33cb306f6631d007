use Rattle.waywire_c.proofs.SpelledArguments.{So}
use Rattle.waywire_c.proofs.decoding.put_spelled.Given as goal

abbrev pub invariant-kinds : goal.invariant-kinds
invariant-kinds l = So l.kinds l.body l.place l.end l.fn.slots l.slots
