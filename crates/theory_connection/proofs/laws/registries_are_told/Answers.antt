use Rattle.theory_connection.proofs.Worlds.{in_world, registry_told}
use Rattle.theory_connection.proofs.laws.registries_are_told.Goals as goal

pub returns : goal.returns
returns c = λ pair world object h i e. in_world pair world h
    (λ asked told s. registry_told pair world asked told s object i e)
