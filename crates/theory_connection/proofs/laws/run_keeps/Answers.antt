use Rattle.theory_connection.proofs.Steps.{run_keeps}
use Rattle.theory_connection.proofs.laws.run_keeps.Goals as goal

pub returns : goal.returns
returns c = run_keeps
