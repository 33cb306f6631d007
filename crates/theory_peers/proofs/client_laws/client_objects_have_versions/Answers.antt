use Rattle.theory_peers.proofs.ClientVersions.{client_run_versions}
use Rattle.theory_peers.proofs.client_laws.client_objects_have_versions.Goals as goal

pub returns : goal.returns
returns c = client_run_versions
