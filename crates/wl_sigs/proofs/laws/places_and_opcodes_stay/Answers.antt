use Rattle.wl_sigs.proofs.GrownStays.{law}
use Rattle.wl_sigs.proofs.laws.places_and_opcodes_stay.Goals as goal

pub returns : goal.returns
returns c = law
