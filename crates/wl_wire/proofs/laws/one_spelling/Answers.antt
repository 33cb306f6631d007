use Rattle.wl_wire.proofs.Canonicals.{one_spelling}
use Rattle.wl_wire.proofs.laws.one_spelling.Goals as goal

pub returns : goal.returns
returns c = one_spelling
