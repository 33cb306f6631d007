use Rattle.std.proofs.Common.{rules}
use Rattle.wl_connection.proofs.end.End.is_drained.Goals as goal

pub returns-then-is_empty : goal.returns-then-is_empty
returns-then-is_empty g c = search rules
