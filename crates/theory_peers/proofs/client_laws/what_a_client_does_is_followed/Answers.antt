use Rattle.theory_peers.proofs.ClientMoves.{asks_one, takes_one}
use Rattle.theory_peers.proofs.client_laws.what_a_client_does_is_followed.Goals as goal

pub returns-clause-read : goal.returns-clause-read
returns-clause-read c = takes_one

pub returns-clause-write : goal.returns-clause-write
returns-clause-write c = asks_one
