use Rattle.std.proofs.Common.{rules}
use Rattle.wl_wire.proofs.value.ValueRef.spelled_len.Goals as goal

pub returns-in-NewNamed : goal.returns-in-NewNamed
returns-in-NewNamed c = search rules
