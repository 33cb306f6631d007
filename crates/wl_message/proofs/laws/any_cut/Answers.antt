use Rattle.wl_message.proofs.Cuts.{messages_append}
use Rattle.wl_message.proofs.laws.any_cut.Goals as goal

pub returns-clause-messages : goal.returns-clause-messages
returns-clause-messages c = λ limit first second. (messages_append limit first second).0

pub returns-clause-rest : goal.returns-clause-rest
returns-clause-rest c = λ limit first second. (messages_append limit first second).1
