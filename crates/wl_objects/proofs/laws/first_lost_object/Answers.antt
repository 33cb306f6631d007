use Rattle.wl_objects.proofs.PlaceLemmas.{lost-first, first-lost}
use Rattle.wl_objects.proofs.laws.first_lost_object.Goals as goal

pub returns : goal.returns
returns c = λ rows ks list place. (lost-first rows ks list place, first-lost rows ks list place)
