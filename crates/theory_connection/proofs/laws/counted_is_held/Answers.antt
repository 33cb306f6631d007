use Rattle.theory_connection.proofs.Worlds.{in_world}
use Rattle.theory_connection.proofs.laws.counted_is_held.Goals as goal

pub returns : goal.returns
returns c = λ pair world h. in_world pair world h (λ asked told s. s.client.holds_counted)
