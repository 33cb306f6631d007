use Rattle.wl_wire.proofs.Refused.{reading-fault}
use Rattle.wl_wire.proofs.laws.first_fault.Goals as goal

pub returns : goal.returns
returns c = λ kind fault bytes w. reading-fault kind fault bytes w
