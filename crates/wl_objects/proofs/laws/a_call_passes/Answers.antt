use Rattle.wl_objects.proofs.Wholes.{passes, passed}
use Rattle.wl_objects.proofs.laws.a_call_passes.Goals as goal

pub returns : goal.returns
returns c = λ limit tables side view target opcode list signature. (
  passes limit tables side view target opcode list signature,
  passed limit tables side view target opcode list
      signature,
)
