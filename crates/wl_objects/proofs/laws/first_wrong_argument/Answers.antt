use Rattle.wl_objects.proofs.PlaceLemmas.{wrong-first, first-wrong, none-wrong, suited-all}
use Rattle.wl_objects.proofs.laws.first_wrong_argument.Goals as goal

pub returns-clause-place : goal.returns-clause-place
returns-clause-place c = λ ks list place. (wrong-first ks list place, first-wrong ks list place)

pub returns-clause-none : goal.returns-clause-none
returns-clause-none c = λ ks list. (none-wrong 0 ks list, λ s. suited-all 0 ks list s.0 s.1)
