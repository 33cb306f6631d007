use Rattle.wl_wire.proofs.Canonicals.{one_int_word}
use Rattle.wl_wire.proofs.laws.one_signed.Goals as goal

pub returns : goal.returns
returns c = one_int_word
