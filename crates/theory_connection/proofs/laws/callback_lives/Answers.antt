use Rattle.theory_connection.proofs.Samples.{callback_lives}
use Rattle.theory_connection.proofs.laws.callback_lives.Goals as goal

pub returns : goal.returns
returns c = callback_lives
