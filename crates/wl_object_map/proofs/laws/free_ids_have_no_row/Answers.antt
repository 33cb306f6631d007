use Rattle.wl_object_map.specs.Views.{free_or_next-rows, free_or_next-next_id}
use Rattle.wl_object_map.specs.Sounds.{freed-opened, used-opened}
use Rattle.wl_object_map.proofs.laws.free_ids_have_no_row.Goals as goal

pub returns-clause-free : goal.returns-clause-free
returns-clause-free c = free_or_next-rows

pub returns-clause-next : goal.returns-clause-next
returns-clause-next c = free_or_next-next_id

pub returns-clause-freed : goal.returns-clause-freed
returns-clause-freed c = freed-opened

pub returns-clause-used : goal.returns-clause-used
returns-clause-used c = used-opened
