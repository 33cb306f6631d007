use Rattle.std.proofs.Common.{rules}
use Rattle.wl_wire.proofs.fixed.Fixed.to_int.Goals as goal

pub returns : goal.returns
returns c = search rules
