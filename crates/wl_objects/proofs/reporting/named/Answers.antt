use Rattle.std.proofs.Common.{rules}
use Rattle.wl_objects.proofs.reporting.named.Goals as goal

pub returns-in-Zombie : goal.returns-in-Zombie
returns-in-Zombie c = search rules
