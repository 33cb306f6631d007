use Rattle.theory_peers.proofs.ServerReads.{spelled_by}
use Rattle.theory_peers.proofs.laws.an_accepted_request_spells_its_message.Goals as goal

pub returns : goal.returns
returns c = spelled_by
