use Rattle.theory_peers.proofs.ClientWrites.{sends_request_step}
use Rattle.theory_peers.proofs.client_laws.a_client_send_is_a_step.Goals as goal

pub returns : goal.returns
returns c = sends_request_step
