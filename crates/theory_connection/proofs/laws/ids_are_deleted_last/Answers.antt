use Rattle.theory_connection.proofs.Worlds.{last_of_id}
use Rattle.theory_connection.proofs.laws.ids_are_deleted_last.Goals as goal

pub returns : goal.returns
returns c = λ object before after pair world asked told s e. last_of_id pair world asked told s object before after e
