use Rattle.std.proofs.Common.{rules}
use Rattle.wl_object_map.proofs.map_table.MapTableTable.open_at.Goals as goal

pub open-requires-clause-free : goal.open-requires-clause-free
open-requires-clause-free c κs = search rules

pub returns-clause-not_next : goal.returns-clause-not_next
returns-clause-not_next c = search rules

pub returns-then-not-has_room-clause-no_ids : goal.returns-then-not-has_room-clause-no_ids
returns-then-not-has_room-clause-no_ids c = search rules

pub returns-then-not-has_room-clause-not_next : goal.returns-then-not-has_room-clause-not_next
returns-then-not-has_room-clause-not_next c = search rules
