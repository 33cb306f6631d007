use Rattle.theory_connection.proofs.Worlds.{in_world, open_not_deleted, made_not_deleted, made_not_open}
use Rattle.theory_connection.proofs.laws.only_one.Goals as goal

pub returns : goal.returns
returns c = record {
  open_or_deleted = λ pair world object h i j. in_world pair world h
      (λ asked told s. open_not_deleted pair world asked told s object i j);
  made_or_deleted = λ pair world object h i j. in_world pair world h
      (λ asked told s. made_not_deleted pair world asked told s object i j);
  made_or_open = λ pair world object h i j. in_world pair world h
      (λ asked told s. made_not_open pair world asked told s object i j);
}
