use Rattle.wl_objects.proofs.Wholes.{length-message, message-words}
use Rattle.wl_objects.proofs.Calls.{len-least}
use Rattle.wl_objects.proofs.laws.a_message_has_its_size.Goals as goal

pub returns-clause-len : goal.returns-clause-len
returns-clause-len c = length-message

pub returns-clause-words : goal.returns-clause-words
returns-clause-words c = message-words

pub returns-clause-header : goal.returns-clause-header
returns-clause-header c = len-least
