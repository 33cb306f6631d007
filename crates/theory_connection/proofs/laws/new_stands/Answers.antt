use Rattle.theory_connection.proofs.PairAtOpening.{new_stands}
use Rattle.theory_connection.proofs.laws.new_stands.Goals as goal

pub returns : goal.returns
returns c = new_stands
