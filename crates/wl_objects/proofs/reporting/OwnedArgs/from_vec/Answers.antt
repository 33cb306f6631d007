use Rattle.std.proofs.Common.{rules}
use Rattle.wl_objects.proofs.reporting.OwnedArgs.from_vec.Goals as goal

pub returns : goal.returns
returns c = search rules
