use Rattle.wl_message.proofs.TakenInStep.{keeps_step, carried}
use Rattle.wl_message.specs.InStep.{part_taken}
use Rattle.wl_message.proofs.laws.take_keeps_step.Goals as goal

pub returns-clause-step : goal.returns-clause-step
returns-clause-step c = λ sent o parts b t taken g c s. keeps_step sent o.messages o.left parts (part_taken o taken) c s

pub returns-clause-carried : goal.returns-clause-carried
returns-clause-carried c = carried
