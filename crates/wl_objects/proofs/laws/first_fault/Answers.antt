use Rattle.wl_objects.proofs.ArgumentsMeet.{faulty, fault-read}
use Rattle.wl_objects.proofs.laws.first_fault.Goals as goal

pub returns : goal.returns
returns c = λ reader place kinds bytes fault w. (faulty reader place kinds bytes fault w, fault-read)
