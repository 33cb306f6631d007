use Rattle.std.proofs.Common.{rules}
use Rattle.wl_objects.proofs.new_object.made_by.Goals as goal

pub returns-in-New-Some-New : goal.returns-in-New-Some-New
returns-in-New-Some-New c = search rules
