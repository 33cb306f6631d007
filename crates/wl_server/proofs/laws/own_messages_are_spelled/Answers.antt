use Rattle.wl_server.proofs.Spelled.{delete_spells, error_spells, fault_text, due_spells}
use Rattle.wl_server.proofs.laws.own_messages_are_spelled.Goals as goal

pub returns : goal.returns
returns c = record { delete_id = delete_spells; error = error_spells; fault = fault_text; told = due_spells }
