use Rattle.theory_peers.proofs.RecordedForClient.{comes_one}
use Rattle.theory_peers.proofs.client_laws.an_accepted_event_is_followed.Goals as goal

pub returns : goal.returns
returns c = comes_one
