use Rattle.theory_completion.proofs.SameVerdict.{broken_stays}
use Rattle.theory_completion.proofs.laws.a_broken_message_stays_broken.Goals as goal

pub returns : goal.returns
returns c = broken_stays
