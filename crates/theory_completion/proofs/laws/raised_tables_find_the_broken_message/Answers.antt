use Rattle.theory_completion.proofs.SameVerdict.{broken_if_known}
use Rattle.theory_completion.proofs.laws.raised_tables_find_the_broken_message.Goals as goal

pub returns : goal.returns
returns c = broken_if_known
