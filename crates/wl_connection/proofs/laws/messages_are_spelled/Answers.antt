use Rattle.wl_connection.proofs.Spelled.{calls_spell, found_spells}
use Rattle.wl_connection.proofs.laws.messages_are_spelled.Goals as goal

pub returns : goal.returns
returns c = record { written = calls_spell; read = found_spells }
