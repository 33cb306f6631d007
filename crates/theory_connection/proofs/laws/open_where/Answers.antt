use Rattle.theory_connection.proofs.Worlds.{in_world}
use Rattle.theory_connection.proofs.ServerObjects.{there_where, where_there, made_not_open, made_not_destroyed}
use Rattle.theory_connection.proofs.ServerObjects.{destroyed_is_ending}
use Rattle.theory_connection.proofs.laws.open_where.Goals as goal

pub returns : goal.returns
returns c = record {
  there = λ pair world object h c. (
    λ i. in_world pair world h (λ asked told s. there_where pair world asked told s object i),
    λ i. in_world pair world h (λ asked told s. where_there pair world asked told s object c i),
  );
  made_or_open = λ pair world object h i j. in_world pair world h
      (λ asked told s. made_not_open pair world asked told s object i j);
  made_or_destroyed = λ pair world object h i j. in_world pair world h
      (λ asked told s. made_not_destroyed pair world asked told s object i j);
  destroyed = λ pair world object h i. in_world pair world h
      (λ asked told s. destroyed_is_ending pair world asked told s object i);
}
