use Rattle.wl_wire.proofs.Canonicals.{one_word}
use Rattle.wl_wire.proofs.laws.one_number.Goals as goal

pub returns : goal.returns
returns c = one_word
