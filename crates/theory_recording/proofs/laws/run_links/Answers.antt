use Rattle.theory_recording.proofs.LinkedMove.{run_links}
use Rattle.theory_recording.proofs.laws.run_links.Goals as goal

pub returns : goal.returns
returns c = run_links
