use Rattle.theory_connection.proofs.Worlds.{in_world}
use Rattle.theory_connection.proofs.ServerObjects.{last_asked}
use Rattle.theory_connection.proofs.laws.destroyed_last.Goals as goal

pub returns : goal.returns
returns c = λ pair world object h before after request later e d i n. in_world pair world h
    (λ asked told s. last_asked pair world asked told s before after request later object e d i n)
