use Rattle.theory_connection.proofs.Worlds.{in_world}
use Rattle.theory_connection.proofs.ServerObjects.{named_in_turn}
use Rattle.theory_connection.proofs.laws.named_in_turn.Goals as goal

pub returns : goal.returns
returns c = λ pair world object h before after event e n. in_world pair world h
    (λ asked told s. named_in_turn pair world asked told s object before after event e n)
