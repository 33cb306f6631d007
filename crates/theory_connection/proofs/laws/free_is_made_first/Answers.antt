use Rattle.std.specs.Prelude.{option_map}
use Rattle.std.proofs.Common.{ap}
use Rattle.theory_connection.specs.Flight.{row_of_entry}
use Rattle.theory_connection.proofs.ServerObjects.{made_first, free_unasked}
use Rattle.theory_connection.proofs.laws.free_is_made_first.Goals as goal

pub returns : goal.returns
returns c = record {
  events = λ id range pair world asked told s h.
      made_first pair world asked told s id range (ap (option_map (row_of_entry id)) h);
  requests = λ id range pair world asked told s h.
      free_unasked pair world asked told s id range (ap (option_map (row_of_entry id)) h);
}
