use Rattle.std.proofs.Common.{rules}
use Rattle.wl_objects.proofs.values.Values.clone.Goals as goal

pub returns : goal.returns
returns c = search rules
