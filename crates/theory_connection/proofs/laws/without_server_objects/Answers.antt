use Rattle.std.specs.Prelude.{option_map}
use Rattle.std.proofs.Common.{ap}
use Rattle.theory_connection.specs.Flight.{row_of_entry}
use Rattle.theory_connection.proofs.Worlds.{in_world}
use Rattle.theory_connection.proofs.WithoutServerObjects.{no_object, nowhere_free, where_held, back_held, where_ending}
use Rattle.theory_connection.proofs.laws.without_server_objects.Goals as goal

pub returns : goal.returns
returns c = record {
  none_of_server = λ pair world object h n c i. in_world pair world h
      (λ asked told s. no_object pair world asked told s n object c i);
  free_nowhere = λ id pair world asked told s n h.
      nowhere_free pair world asked told s n id (ap (option_map (row_of_entry id)) h);
  held_where = λ pair world object h n i. in_world pair world h
      (λ asked told s. where_held pair world asked told s n object i);
  held_back = λ pair world object h n i. in_world pair world h
      (λ asked told s. back_held pair world asked told s n object i);
  ending = λ pair world object h n i. in_world pair world h
      (λ asked told s. where_ending pair world asked told s n object i);
}
