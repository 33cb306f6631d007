use Rattle.std.proofs.Common.{rules}
use Rattle.wl_server.proofs.changes.open_object.Goals as goal

pub returns-in_ok-open_free-clause-registries : goal.returns-in_ok-open_free-clause-registries
returns-in_ok-open_free-clause-registries c = search rules
