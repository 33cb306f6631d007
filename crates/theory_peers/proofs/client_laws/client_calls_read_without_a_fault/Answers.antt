use Rattle.theory_peers.proofs.CallsOfClient.{client_calls_read}
use Rattle.theory_peers.proofs.client_laws.client_calls_read_without_a_fault.Goals as goal

pub returns : goal.returns
returns c = client_calls_read
