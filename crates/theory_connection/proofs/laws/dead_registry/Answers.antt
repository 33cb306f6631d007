use Rattle.theory_connection.proofs.Samples.{dead_registry}
use Rattle.theory_connection.proofs.laws.dead_registry.Goals as goal

pub returns : goal.returns
returns c = dead_registry
