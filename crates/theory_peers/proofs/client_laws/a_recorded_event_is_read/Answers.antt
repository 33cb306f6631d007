use Rattle.theory_peers.proofs.ClientReads.{read_by_client}
use Rattle.theory_peers.proofs.client_laws.a_recorded_event_is_read.Goals as goal

pub returns : goal.returns
returns c = read_by_client
