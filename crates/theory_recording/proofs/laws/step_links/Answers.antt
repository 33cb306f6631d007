use Rattle.theory_recording.proofs.LinkedMove.{step_links}
use Rattle.theory_recording.proofs.laws.step_links.Goals as goal

pub returns : goal.returns
returns c = step_links
