use Rattle.wl_objects.proofs.PlaceLemmas.{wrong-refused, lost-refused}
use Rattle.wl_objects.proofs.laws.a_call_is_refused_for_an_argument.Goals as goal

pub returns-clause-wrong : goal.returns-clause-wrong
returns-clause-wrong c = wrong-refused

pub returns-clause-lost : goal.returns-clause-lost
returns-clause-lost c = lost-refused
