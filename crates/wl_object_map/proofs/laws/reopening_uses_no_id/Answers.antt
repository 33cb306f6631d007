use Rattle.wl_object_map.specs.Sounds.{freed-reopened, used-reopened}
use Rattle.wl_object_map.proofs.laws.reopening_uses_no_id.Goals as goal

pub returns-clause-freed : goal.returns-clause-freed
returns-clause-freed c = freed-reopened

pub returns-clause-used : goal.returns-clause-used
returns-clause-used c = used-reopened
