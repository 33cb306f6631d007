use Rattle.theory_connection.proofs.PairAtOpening.{agree_drained}
use Rattle.theory_connection.proofs.laws.drained_agree.Goals as goal

pub returns : goal.returns
returns c = agree_drained
