use Rattle.wl_client.proofs.UnannouncedBinds.{unannounced_spells, of_named}
use Rattle.wl_client.proofs.laws.unannounced_binds_are_spelled.Goals as goal

pub returns : goal.returns
returns c = record { spelled = unannounced_spells; named = of_named }
