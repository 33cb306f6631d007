use Rattle.theory_completion.proofs.SameMessages.{messages_agree}
use Rattle.theory_completion.proofs.laws.messages_are_judged_alike.Goals as goal

pub returns : goal.returns
returns c = messages_agree
