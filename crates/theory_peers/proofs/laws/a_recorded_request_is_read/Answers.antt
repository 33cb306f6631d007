use Rattle.theory_peers.proofs.ServerReads.{read_by_server}
use Rattle.theory_peers.proofs.laws.a_recorded_request_is_read.Goals as goal

pub returns : goal.returns
returns c = read_by_server
