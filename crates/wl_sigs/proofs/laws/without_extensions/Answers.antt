use Rattle.wl_sigs.proofs.Unsaid.{extended_alone, broken_alone}
use Rattle.wl_sigs.proofs.laws.without_extensions.Goals as goal

pub returns : goal.returns
returns c = λ tables written none. (extended_alone tables written none, broken_alone tables written none)
