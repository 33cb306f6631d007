use Rattle.wl_wire.proofs.Canonicals.{spelled-suits, spelled-len}
use Rattle.wl_wire.proofs.laws.spelled_suits.Goals as goal

pub returns : goal.returns
returns c = λ kind v bytes s. (spelled-suits s, spelled-len s)
