use Rattle.theory_peers.proofs.ServerSteps.{reads_step}
use Rattle.theory_peers.proofs.laws.a_read_is_a_step.Goals as goal

pub returns : goal.returns
returns c = reads_step
