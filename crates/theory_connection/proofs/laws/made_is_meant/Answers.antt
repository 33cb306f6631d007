use Rattle.theory_connection.proofs.Worlds.{in_world}
use Rattle.theory_connection.proofs.MadeMeant.{as_meant, replaces_none}
use Rattle.theory_connection.proofs.laws.made_is_meant.Goals as goal

pub returns : goal.returns
returns c = record {
  made = λ pair world coming rest report h e a. in_world pair world h
      (λ asked told s. as_meant pair world asked told s coming rest report e a);
  replaced = λ pair world report h a. in_world pair world h
      (λ asked told s. replaces_none pair world asked told s report a);
}
