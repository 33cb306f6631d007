use Rattle.theory_connection.proofs.Worlds.{in_world}
use Rattle.theory_connection.proofs.ServerObjects.{named_open}
use Rattle.theory_connection.proofs.laws.named_is_open.Goals as goal

pub returns : goal.returns
returns c = λ pair world object h c i. in_world pair world h
    (λ asked told s. named_open pair world asked told s object c i)
