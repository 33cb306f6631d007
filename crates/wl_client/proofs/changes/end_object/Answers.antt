use Rattle.std.proofs.Common.{sym, ap}
use Rattle.wl_connection.specs.Core.{with_view}
use Rattle.wl_client.proofs.Zombies.{ended_same}
use Rattle.wl_client.proofs.changes.end_object.Goals as goal

pub returns-else-is_live : goal.returns-else-is_live
returns-else-is_live g c = ap (with_view c.args.core.now)
    (sym (ended_same c.args.core.now.view c.args.id c.requires.held (sym c.if-is_live.ensures)))
