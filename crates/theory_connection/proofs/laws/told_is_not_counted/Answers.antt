use Rattle.theory_connection.proofs.Worlds.{in_world}
use Rattle.theory_connection.proofs.ServerObjects.{told_not_counted}
use Rattle.theory_connection.proofs.laws.told_is_not_counted.Goals as goal

pub returns : goal.returns
returns c = λ pair world object h i l. in_world pair world h
    (λ asked told s. told_not_counted pair world asked told s object i l)
