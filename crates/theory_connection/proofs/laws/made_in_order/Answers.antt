use Rattle.theory_connection.proofs.Worlds.{in_world}
use Rattle.theory_connection.proofs.ServerObjects.{requests_in_order, events_in_order}
use Rattle.theory_connection.proofs.laws.made_in_order.Goals as goal

pub returns : goal.returns
returns c = record {
  requests = λ pair world h. in_world pair world h (λ asked told s. requests_in_order pair world asked told s);
  events = λ pair world h. in_world pair world h (λ asked told s. events_in_order pair world asked told s);
}
