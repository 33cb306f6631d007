use Rattle.theory_peers.proofs.FirstBroken.{first_broken}
use Rattle.theory_peers.proofs.laws.the_first_broken_message_is_the_clients.Goals as goal

pub returns : goal.returns
returns c = first_broken
