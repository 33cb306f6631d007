use Rattle.theory_peers.proofs.CallsOfServer.{calls_read}
use Rattle.theory_peers.proofs.laws.calls_read_without_a_fault.Goals as goal

pub returns : goal.returns
returns c = calls_read
