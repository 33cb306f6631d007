use Rattle.wl_text.proofs.Texts.{first_bad}
use Rattle.wl_text.proofs.laws.first_bad_line.Goals as goal

pub returns : goal.returns
returns c = first_bad
