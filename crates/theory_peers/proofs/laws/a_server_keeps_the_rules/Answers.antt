use Rattle.theory_peers.proofs.RunOfServer.{run_follows}
use Rattle.theory_peers.proofs.laws.a_server_keeps_the_rules.Goals as goal

pub returns-clause-keeps : goal.returns-clause-keeps
returns-clause-keeps c = λ limit tables e asked told server v run.
    (run_follows limit tables e asked told server v run).passed

pub returns-clause-follows : goal.returns-clause-follows
returns-clause-follows c = run_follows
