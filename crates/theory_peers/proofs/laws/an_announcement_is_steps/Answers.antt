use Rattle.theory_peers.proofs.ServerWrites.{announces_steps}
use Rattle.theory_peers.proofs.laws.an_announcement_is_steps.Goals as goal

pub returns : goal.returns
returns c = announces_steps
