use Rattle.wl_client.proofs.Binds.{bind_spells}
use Rattle.wl_client.proofs.laws.binds_are_spelled.Goals as goal

pub returns : goal.returns
returns c = bind_spells
