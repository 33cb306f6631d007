use Rattle.wl_message.proofs.Cuts.{messages_joined}
use Rattle.wl_message.proofs.laws.joined_messages.Goals as goal

pub returns-clause-messages : goal.returns-clause-messages
returns-clause-messages c = λ limit messages w. (messages_joined limit messages w).0

pub returns-clause-rest : goal.returns-clause-rest
returns-clause-rest c = λ limit messages w. (messages_joined limit messages w).1
