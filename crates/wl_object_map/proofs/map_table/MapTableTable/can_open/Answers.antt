use Rattle.std.proofs.Common.{rules}
use Rattle.wl_object_map.proofs.map_table.MapTableTable.can_open.Goals as goal

pub returns : goal.returns
returns c = search rules
