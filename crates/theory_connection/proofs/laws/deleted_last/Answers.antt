use Rattle.theory_connection.proofs.Worlds.{in_world, last_deleted}
use Rattle.theory_connection.proofs.laws.deleted_last.Goals as goal

pub returns : goal.returns
returns c = λ pair world object h before after coming e i n. in_world pair world h
    (λ asked told s. last_deleted pair world asked told s before after object e coming i n)
