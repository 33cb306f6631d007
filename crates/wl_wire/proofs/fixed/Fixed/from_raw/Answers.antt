use Rattle.std.proofs.Common.{rules}
use Rattle.wl_wire.proofs.fixed.Fixed.from_raw.Goals as goal

pub returns : goal.returns
returns c = search rules
