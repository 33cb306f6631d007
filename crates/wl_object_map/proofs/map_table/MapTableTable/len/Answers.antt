use Rattle.std.proofs.Common.{arith}
use Rattle.std.proofs.lemmas.Grind.{common_steps}
use Rattle.wl_object_map.proofs.map_table.MapTableTable.len.Goals as goal

pub returns : goal.returns
returns c = grind (arith, common_steps)
