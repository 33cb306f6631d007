use Rattle.std.proofs.Common.{rules}
use Rattle.wl_wire.proofs.owning.read_value.Goals as goal

pub returns-in-Ok-owned-clause-computes : goal.returns-in-Ok-owned-clause-computes
returns-in-Ok-owned-clause-computes c = search rules

pub returns-in-Ok-owned-clause-found : goal.returns-in-Ok-owned-clause-found
returns-in-Ok-owned-clause-found c = search rules

pub returns-in-Ok-owned-clause-only : goal.returns-in-Ok-owned-clause-only
returns-in-Ok-owned-clause-only c = search rules
