use Rattle.std.proofs.Common.{rules}
use Rattle.wl_client.proofs.meaning.meaning_of_delete_id.Goals as goal

pub returns-in-Some-clause-outline : goal.returns-in-Some-clause-outline
returns-in-Some-clause-outline g c tables body tokens = search rules

pub returns-in_default-clause-outline : goal.returns-in_default-clause-outline
returns-in_default-clause-outline g c tables body tokens = search rules
