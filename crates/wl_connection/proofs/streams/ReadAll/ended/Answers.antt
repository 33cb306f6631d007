use Rattle.std.proofs.Common.{rules}
use Rattle.wl_connection.proofs.streams.ReadAll.ended.Goals as goal

pub returns : goal.returns
returns c = search rules
