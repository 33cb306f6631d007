use Rattle.theory_recording.proofs.LinkedIsLawful.{linked_stands}
use Rattle.theory_recording.proofs.laws.linked_stands.Goals as goal

pub returns : goal.returns
returns c = linked_stands
