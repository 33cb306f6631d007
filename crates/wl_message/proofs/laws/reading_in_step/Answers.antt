use Rattle.wl_message.proofs.Steps.{step_first, step_read, step_joined, step_parted}
use Rattle.wl_message.proofs.laws.reading_in_step.Goals as goal

pub returns-clause-first : goal.returns-clause-first
returns-clause-first c = step_first

pub returns-clause-read : goal.returns-clause-read
returns-clause-read c = step_read

pub returns-clause-joined : goal.returns-clause-joined
returns-clause-joined c = step_joined

pub returns-clause-parted : goal.returns-clause-parted
returns-clause-parted c = step_parted
