use Rattle.std.proofs.Common.{rules}
use Rattle.wl_server.proofs.server.Server.add_global.Goals as goal

pub returns-then-count-most-clause-answer : goal.returns-then-count-most-clause-answer
returns-then-count-most-clause-answer c = search rules
