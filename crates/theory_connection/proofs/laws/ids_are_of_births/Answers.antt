use Rattle.theory_connection.proofs.Worlds.{in_world}
use Rattle.theory_connection.proofs.laws.ids_are_of_births.Goals as goal

pub returns : goal.returns
returns c = record {
  client = λ pair world h. in_world pair world h (λ asked told s. s.client.sound.client.ids);
  server = λ pair world h. in_world pair world h (λ asked told s. s.server.sound.client.ids);
  server_range_at_client = λ pair world h. in_world pair world h (λ asked told s. s.client.sound.server.ids);
  server_range_at_server = λ pair world h. in_world pair world h (λ asked told s. s.server.sound.server.ids);
}
