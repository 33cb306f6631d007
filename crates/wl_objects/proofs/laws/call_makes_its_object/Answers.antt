use Rattle.wl_objects.proofs.CheckedCalls.{call-makes}
use Rattle.wl_objects.proofs.laws.call_makes_its_object.Goals as goal

pub returns : goal.returns
returns c = λ tables version id kinds list w. call-makes tables version id 0 kinds list w
