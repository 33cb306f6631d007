use Rattle.theory_peers.proofs.ServerVersions.{run_versions}
use Rattle.theory_peers.proofs.laws.objects_have_versions.Goals as goal

pub returns : goal.returns
returns c = run_versions
