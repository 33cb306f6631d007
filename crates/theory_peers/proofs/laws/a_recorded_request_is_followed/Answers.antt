use Rattle.theory_peers.proofs.RecordedOfServer.{request_one}
use Rattle.theory_peers.proofs.laws.a_recorded_request_is_followed.Goals as goal

pub returns : goal.returns
returns c = request_one
