use Rattle.wl_wire.proofs.Canonicals.{reading-canonical}
use Rattle.wl_wire.proofs.laws.written_is_read.Goals as goal

pub returns : goal.returns
returns c = reading-canonical
