use Rattle.theory_peers.proofs.CallsOfServer.{calls_keep, calls_run}
use Rattle.theory_peers.proofs.laws.calls_make_a_run.Goals as goal

pub returns-clause-run : goal.returns-clause-run
returns-clause-run c = calls_run

pub returns-clause-keeps : goal.returns-clause-keeps
returns-clause-keeps c = calls_keep
