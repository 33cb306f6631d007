use Rattle.theory_peers.proofs.ClientMoves.{passes_one}
use Rattle.theory_peers.proofs.client_laws.what_a_client_wrote_keeps_the_rules.Goals as goal

pub returns : goal.returns
returns c = passes_one
