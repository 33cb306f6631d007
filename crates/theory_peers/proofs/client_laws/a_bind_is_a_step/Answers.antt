use Rattle.theory_peers.proofs.ClientWrites.{binds_step}
use Rattle.theory_peers.proofs.client_laws.a_bind_is_a_step.Goals as goal

pub returns : goal.returns
returns c = binds_step
