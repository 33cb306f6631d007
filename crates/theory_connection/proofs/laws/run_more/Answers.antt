use Rattle.theory_connection.proofs.PairAtOpening.{run_more}
use Rattle.theory_connection.proofs.laws.run_more.Goals as goal

pub returns : goal.returns
returns c = λ p w moves replies last s r. let e = run_more p w moves replies last s r in (e.world, e.stands, e.extends)
