use Rattle.wl_message.proofs.Cuts.{whole_stays, bad_stays, front_message, message_there}
use Rattle.wl_message.proofs.laws.front_stays.Goals as goal

pub returns-clause-whole : goal.returns-clause-whole
returns-clause-whole c = whole_stays

pub returns-clause-bad : goal.returns-clause-bad
returns-clause-bad c = bad_stays

pub returns-clause-found : goal.returns-clause-found
returns-clause-found c = front_message

pub returns-clause-is_message : goal.returns-clause-is_message
returns-clause-is_message c = message_there
