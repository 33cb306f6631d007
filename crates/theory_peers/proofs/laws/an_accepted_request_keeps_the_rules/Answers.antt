use Rattle.theory_peers.proofs.AcceptedIsAsked.{asked_by}
use Rattle.theory_peers.proofs.laws.an_accepted_request_keeps_the_rules.Goals as goal

pub returns : goal.returns
returns c = asked_by
