use Rattle.theory_peers.proofs.AcceptedIsTold.{told_by}
use Rattle.theory_peers.proofs.client_laws.an_accepted_event_keeps_the_rules.Goals as goal

pub returns : goal.returns
returns c = told_by
