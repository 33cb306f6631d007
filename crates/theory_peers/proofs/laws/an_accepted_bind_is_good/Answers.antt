use Rattle.theory_peers.proofs.AcceptedBinds.{good_bind}
use Rattle.theory_peers.proofs.laws.an_accepted_bind_is_good.Goals as goal

pub returns : goal.returns
returns c = good_bind
