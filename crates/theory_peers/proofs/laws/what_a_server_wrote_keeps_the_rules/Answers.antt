use Rattle.theory_peers.proofs.RecordedOfServer.{coming_one}
use Rattle.theory_peers.proofs.laws.what_a_server_wrote_keeps_the_rules.Goals as goal

pub returns : goal.returns
returns c = coming_one
