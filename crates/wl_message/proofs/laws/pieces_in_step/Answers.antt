use Rattle.wl_message.proofs.TakenInStep.{gave_in_step, gave_all}
use Rattle.wl_message.proofs.laws.pieces_in_step.Goals as goal

pub returns-clause-step : goal.returns-clause-step
returns-clause-step c = gave_in_step

pub returns-clause-carried : goal.returns-clause-carried
returns-clause-carried c = gave_all
