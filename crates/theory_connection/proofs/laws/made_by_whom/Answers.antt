use Rattle.theory_connection.proofs.Worlds.{in_world, made_by, deleted_by}
use Rattle.theory_connection.proofs.ServerObjects.{made_by_event}
use Rattle.theory_connection.proofs.laws.made_by_whom.Goals as goal

pub returns : goal.returns
returns c = record {
  request = λ pair world object h i. in_world pair world h
      (λ asked told s. made_by pair world asked told s object i);
  event = λ pair world object h i. in_world pair world h
      (λ asked told s. made_by_event pair world asked told s object i);
  deleted = λ pair world object h i. in_world pair world h
      (λ asked told s. deleted_by pair world asked told s object i);
}
