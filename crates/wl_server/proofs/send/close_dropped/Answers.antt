use Rattle.std.proofs.Common.{rules}
use Rattle.wl_server.proofs.send.close_dropped.Goals as goal

pub returns-clause-ok : goal.returns-clause-ok
returns-clause-ok c = search rules
