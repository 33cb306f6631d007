use Rattle.wl_connection.proofs.Openings.{opens_nothing, event_opens_none}
use Rattle.wl_connection.proofs.laws.openings_alone_need_memory.Goals as goal

pub returns-clause-nothing : goal.returns-clause-nothing
returns-clause-nothing c = opens_nothing

pub returns-clause-event : goal.returns-clause-event
returns-clause-event c = event_opens_none
