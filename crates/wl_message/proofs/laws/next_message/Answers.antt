use Rattle.wl_message.proofs.Cuts.{messages_whole, messages_none}
use Rattle.wl_message.proofs.laws.next_message.Goals as goal

pub returns-clause-whole : goal.returns-clause-whole
returns-clause-whole c = messages_whole

pub returns-clause-none : goal.returns-clause-none
returns-clause-none c = messages_none
