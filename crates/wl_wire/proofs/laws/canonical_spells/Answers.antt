use Rattle.wl_wire.proofs.Canonicals.{canonical-spells}
use Rattle.wl_wire.proofs.laws.canonical_spells.Goals as goal

pub returns : goal.returns
returns c = canonical-spells
