use Rattle.wl_client.proofs.Replaced.{replaced_over}
use Rattle.wl_client.proofs.laws.replaced_objects_are_over.Goals as goal

pub returns : goal.returns
returns c = replaced_over
