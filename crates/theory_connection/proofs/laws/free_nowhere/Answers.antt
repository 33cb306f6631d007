use Rattle.std.specs.Prelude.{option_map}
use Rattle.std.proofs.Common.{ap}
use Rattle.theory_connection.specs.Flight.{row_of_entry}
use Rattle.theory_connection.proofs.Plain.{free_nowhere}
use Rattle.theory_connection.proofs.laws.free_nowhere.Goals as goal

pub returns : goal.returns
returns c = λ id range pair world asked told s h. free_nowhere id s.meet range (ap (option_map (row_of_entry id)) h)
