use Rattle.wl_sigs.proofs.FirstLineWords.{first_line}
use Rattle.wl_sigs.proofs.laws.first_broken_is_first.Goals as goal

pub returns : goal.returns
returns c = first_line
