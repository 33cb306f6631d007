use Rattle.theory_peers.proofs.RunOfClient.{client_run_follows}
use Rattle.theory_peers.proofs.client_laws.a_client_keeps_the_rules.Goals as goal

pub returns-clause-keeps : goal.returns-clause-keeps
returns-clause-keeps c = λ limit tables e asked told client remembered v run.
    (client_run_follows limit tables e asked told client remembered v run).passed

pub returns-clause-follows : goal.returns-clause-follows
returns-clause-follows c = client_run_follows
