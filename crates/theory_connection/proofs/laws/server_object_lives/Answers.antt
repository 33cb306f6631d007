use Rattle.theory_connection.proofs.Samples.{server_object_lives}
use Rattle.theory_connection.proofs.laws.server_object_lives.Goals as goal

pub returns : goal.returns
returns c = server_object_lives
