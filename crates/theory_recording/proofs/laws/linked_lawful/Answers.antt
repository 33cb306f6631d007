use Rattle.theory_recording.proofs.LinkedIsLawful.{linked_lawful}
use Rattle.theory_recording.proofs.laws.linked_lawful.Goals as goal

pub returns : goal.returns
returns c = linked_lawful
