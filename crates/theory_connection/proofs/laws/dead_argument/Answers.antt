use Rattle.theory_connection.proofs.Samples.{dead_argument}
use Rattle.theory_connection.proofs.laws.dead_argument.Goals as goal

pub returns : goal.returns
returns c = dead_argument
