use Rattle.theory_connection.proofs.Steps.{step_keeps}
use Rattle.theory_connection.proofs.laws.step_keeps.Goals as goal

pub returns : goal.returns
returns c = step_keeps
