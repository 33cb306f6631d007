use Rattle.std.proofs.Common.{rules}
use Rattle.wl_connection.proofs.end.End.in_room.Goals as goal

pub returns : goal.returns
returns g c = search rules
