use Rattle.wl_wire.proofs.Fronts.{reading-spelled}
use Rattle.wl_wire.proofs.laws.spelled_is_read.Goals as goal

pub returns : goal.returns
returns c = λ kind v front rest s. reading-spelled rest s
