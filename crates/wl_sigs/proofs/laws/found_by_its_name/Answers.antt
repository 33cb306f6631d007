use Rattle.wl_sigs.proofs.Lookups.{place_of_its_name}
use Rattle.wl_sigs.proofs.laws.found_by_its_name.Goals as goal

pub returns : goal.returns
returns c = λ tables place i valid at. place_of_its_name tables valid place i at
