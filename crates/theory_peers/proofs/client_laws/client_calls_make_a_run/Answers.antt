use Rattle.theory_peers.proofs.CallsOfClient.{client_calls_keep, client_calls_run}
use Rattle.theory_peers.proofs.client_laws.client_calls_make_a_run.Goals as goal

pub returns-clause-run : goal.returns-clause-run
returns-clause-run c = client_calls_run

pub returns-clause-keeps : goal.returns-clause-keeps
returns-clause-keeps c = client_calls_keep
