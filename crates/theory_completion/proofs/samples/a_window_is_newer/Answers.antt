use Rattle.theory_completion.proofs.CompletedSample.{sample_completes}
use Rattle.theory_completion.proofs.samples.a_window_is_newer.Goals as goal

pub returns-clause-completes : goal.returns-clause-completes
returns-clause-completes c = sample_completes
