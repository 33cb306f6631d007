use Rattle.theory_connection.proofs.Samples.{dead_in_error}
use Rattle.theory_connection.proofs.laws.dead_in_error.Goals as goal

pub returns : goal.returns
returns c = dead_in_error
