use Rattle.wl_object_map.specs.ObjectsLaws.{look-new_range}
use Rattle.wl_object_map.proofs.laws.new_ranges_are_empty.Goals as goal

pub returns-clause-rows : goal.returns-clause-rows
returns-clause-rows c = look-new_range
