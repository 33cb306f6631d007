use Rattle.theory_peers.proofs.ClientReads.{event_spelled_by}
use Rattle.theory_peers.proofs.client_laws.an_accepted_event_spells_its_message.Goals as goal

pub returns : goal.returns
returns c = event_spelled_by
