use Rattle.theory_connection.proofs.Carries.{carry_whole}
use Rattle.theory_connection.proofs.laws.carry_is_whole.Goals as goal

pub returns : goal.returns
returns c = carry_whole
