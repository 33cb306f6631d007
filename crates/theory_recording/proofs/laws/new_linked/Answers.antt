use Rattle.theory_recording.proofs.LinkedAtOpening.{new_linked}
use Rattle.theory_recording.proofs.laws.new_linked.Goals as goal

pub returns : goal.returns
returns c = new_linked
