use Rattle.theory_connection.proofs.Worlds.{in_world, where_ending, not_both, open_not_destroyed, open_deleted}
use Rattle.theory_connection.proofs.ServerObjects.{ending_there}
use Rattle.theory_connection.proofs.laws.ending_where.Goals as goal

pub returns : goal.returns
returns c = record {
  ending = λ pair world object h c i. in_world pair world h
      (λ asked told s. where_ending pair world asked told s object c i);
  one = λ pair world object h i j. in_world pair world h (λ asked told s. not_both pair world asked told s object i j);
  is_open = λ pair world object h i j. in_world pair world h
      (λ asked told s. open_not_destroyed pair world asked told s object i j);
  event = λ pair world object h i j. in_world pair world h
      (λ asked told s. open_deleted pair world asked told s object i j);
  of_server = λ pair world object h c i. in_world pair world h
      (λ asked told s. ending_there pair world asked told s object c i);
}
