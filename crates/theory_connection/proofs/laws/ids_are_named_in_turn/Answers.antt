use Rattle.theory_connection.proofs.ServerObjects.{latest_named}
use Rattle.theory_connection.proofs.laws.ids_are_named_in_turn.Goals as goal

pub returns : goal.returns
returns c = λ object before after event pair world asked told s e n. latest_named pair world asked told s object before
    after event e n
