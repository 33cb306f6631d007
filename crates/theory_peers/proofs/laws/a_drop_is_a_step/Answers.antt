use Rattle.theory_peers.proofs.ServerWrites.{drops_step}
use Rattle.theory_peers.proofs.laws.a_drop_is_a_step.Goals as goal

pub returns : goal.returns
returns c = drops_step
