use Rattle.std.proofs.Common.{rules}
use Rattle.wl_objects.proofs.reporting.OwnedArgs.as_slice.Goals as goal

pub returns-in-Some : goal.returns-in-Some
returns-in-Some c = search rules
