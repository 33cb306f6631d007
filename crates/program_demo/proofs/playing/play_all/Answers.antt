use Rattle.program_demo.proofs.Runs.{plays_once}
use Rattle.program_demo.proofs.playing.play_all.Goals as goal

pub returns : goal.returns
returns g c = plays_once _ _ _ _ c.in_ok-run_all.ensures
