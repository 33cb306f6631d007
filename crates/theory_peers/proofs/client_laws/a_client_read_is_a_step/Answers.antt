use Rattle.theory_peers.proofs.ClientSteps.{client_reads_step}
use Rattle.theory_peers.proofs.client_laws.a_client_read_is_a_step.Goals as goal

pub returns : goal.returns
returns c = client_reads_step
