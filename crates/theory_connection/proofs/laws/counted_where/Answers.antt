use Rattle.theory_connection.proofs.Worlds.{in_world, ids_counted}
use Rattle.theory_connection.proofs.ServerObjects.{client_births_are, server_ids_counted, server_births_are}
use Rattle.theory_connection.proofs.laws.counted_where.Goals as goal

pub returns : goal.returns
returns c = record {
  ids = λ pair world asked told s id some. ids_counted pair world asked told s id some;
  births = λ pair world h. in_world pair world h (λ asked told s. client_births_are pair world asked told s);
  server_ids = λ pair world asked told s id range. server_ids_counted pair world asked told s id;
  server_births = λ pair world h. in_world pair world h (λ asked told s. server_births_are pair world asked told s);
}
