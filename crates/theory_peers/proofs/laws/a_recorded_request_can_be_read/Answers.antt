use Rattle.theory_peers.proofs.ServerMoves.{reads_one}
use Rattle.theory_peers.proofs.laws.a_recorded_request_can_be_read.Goals as goal

pub returns : goal.returns
returns c = reads_one
