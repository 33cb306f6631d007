use Rattle.std.proofs.Common.{refl}
use Rattle.wl_sigs.specs.Side.TheVariants.{Request, Event}
use Rattle.wl_sigs.specs.Core.{core_tables}
use Rattle.wl_sigs.proofs.laws.opcodes_are_of_their_names.Goals as goal

pub returns : goal.returns
unfolding core_tables
returns c Request = refl
returns c Event = refl
