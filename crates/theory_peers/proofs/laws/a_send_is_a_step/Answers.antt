use Rattle.theory_peers.proofs.ServerWrites.{sends_step}
use Rattle.theory_peers.proofs.laws.a_send_is_a_step.Goals as goal

pub returns : goal.returns
returns c = sends_step
