use Rattle.std.proofs.Common.{rules}
use Rattle.wl_wire.proofs.value.Value.lend.Goals as goal

pub returns-in-New : goal.returns-in-New
returns-in-New c = search rules
