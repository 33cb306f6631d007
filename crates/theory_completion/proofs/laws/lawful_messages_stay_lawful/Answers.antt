use Rattle.theory_completion.proofs.SameVerdict.{passed_stay}
use Rattle.theory_completion.proofs.laws.lawful_messages_stay_lawful.Goals as goal

pub returns : goal.returns
returns c = passed_stay
