use Rattle.theory_connection.proofs.ServerObjects.{last_asked_id}
use Rattle.theory_connection.proofs.laws.ids_are_destroyed_last.Goals as goal

pub returns : goal.returns
returns c = λ object before after request pair world asked told s e d.
    last_asked_id pair world asked told s object before after request e d
