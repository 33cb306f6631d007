use Rattle.theory_connection.proofs.Steps.{client_meets_none}
use Rattle.theory_connection.proofs.laws.client_meets_no_fault.Goals as goal

pub returns : goal.returns
returns c = client_meets_none
