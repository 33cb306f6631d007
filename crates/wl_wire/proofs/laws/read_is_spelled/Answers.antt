use Rattle.wl_wire.proofs.Taken.{reading-found}
use Rattle.wl_wire.proofs.laws.read_is_spelled.Goals as goal

pub returns : goal.returns
returns c = reading-found
