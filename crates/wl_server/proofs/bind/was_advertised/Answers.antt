use Rattle.std.proofs.Common.{rules}
use Rattle.wl_server.proofs.bind.was_advertised.Goals as goal

pub returns-then-version-ge1 : goal.returns-then-version-ge1
returns-then-version-ge1 c = search rules
