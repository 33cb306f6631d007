use Rattle.theory_completion.proofs.SameVerdict.{verdict_stays}
use Rattle.theory_completion.proofs.laws.a_verdict_without_doubt_stays.Goals as goal

pub returns : goal.returns
returns c = verdict_stays
