use Rattle.theory_connection.proofs.Worlds.{in_world, back_held}
use Rattle.theory_connection.proofs.laws.held_back.Goals as goal

pub returns : goal.returns
returns c = λ pair world object h c i. in_world pair world h
    (λ asked told s. back_held pair world asked told s object c i)
