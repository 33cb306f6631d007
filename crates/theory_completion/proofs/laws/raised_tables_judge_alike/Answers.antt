use Rattle.theory_completion.proofs.SameVerdict.{verdict_if_known}
use Rattle.theory_completion.proofs.laws.raised_tables_judge_alike.Goals as goal

pub returns : goal.returns
returns c = verdict_if_known
