use Rattle.theory_peers.proofs.ServerMoves.{drops_one, writes_one}
use Rattle.theory_peers.proofs.laws.what_a_server_writes_is_followed.Goals as goal

pub returns-clause-event : goal.returns-clause-event
returns-clause-event c = writes_one

pub returns-clause-drop : goal.returns-clause-drop
returns-clause-drop c = drops_one
