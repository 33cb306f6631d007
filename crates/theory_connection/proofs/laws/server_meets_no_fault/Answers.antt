use Rattle.theory_connection.proofs.Steps.{server_meets_none}
use Rattle.theory_connection.proofs.laws.server_meets_no_fault.Goals as goal

pub returns : goal.returns
returns c = server_meets_none
