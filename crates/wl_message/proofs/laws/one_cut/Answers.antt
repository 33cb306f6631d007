use Rattle.wl_message.proofs.Cuts.{is_cut, messages_one}
use Rattle.wl_message.proofs.laws.one_cut.Goals as goal

pub returns-clause-exists : goal.returns-clause-exists
returns-clause-exists c = is_cut

pub returns-clause-unique : goal.returns-clause-unique
returns-clause-unique c = messages_one
