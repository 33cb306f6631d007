use Rattle.std.proofs.Common.{rules}
use Rattle.wl_object_map.proofs.map_table.MapTableTable.open_next.Goals as goal

pub returns-clause-no_ids : goal.returns-clause-no_ids
returns-clause-no_ids c = search rules

pub returns-clause-object : goal.returns-clause-object
returns-clause-object c = search rules

pub returns-clause-ok : goal.returns-clause-ok
returns-clause-ok c = search rules

pub returns-then-not-has_room-clause-no_ids : goal.returns-then-not-has_room-clause-no_ids
returns-then-not-has_room-clause-no_ids c = search rules
