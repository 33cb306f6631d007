use Rattle.theory_peers.proofs.ServerAtOpening.{follows_new}
use Rattle.theory_peers.proofs.laws.a_new_server_is_followed.Goals as goal

pub returns : goal.returns
returns c = follows_new
