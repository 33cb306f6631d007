use Rattle.wl_client.proofs.AnyBinds.{known_or_refused}
use Rattle.wl_client.proofs.laws.unannounced_binds_are_known.Goals as goal

pub returns : goal.returns
returns c = known_or_refused
