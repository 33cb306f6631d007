use Rattle.wl_object_map.proofs.Rows.{rows_insert}
use Rattle.wl_object_map.proofs.map_table.insert_row.Goals as goal

pub returns-in-Ok-clause-rows : goal.returns-in-Ok-clause-rows
returns-in-Ok-clause-rows g c = rows_insert _ _ c.args.id c.args.entry c.in-Ok.ensures.updates.0
