use Rattle.theory_peers.proofs.ClientAtOpening.{follows_new_client}
use Rattle.theory_peers.proofs.client_laws.a_new_client_is_followed.Goals as goal

pub returns : goal.returns
returns c = follows_new_client
