use Rattle.std.proofs.Common.{arith}
use Rattle.std.proofs.lemmas.Grind.{common_steps}
use Rattle.wl_check.proofs.verdict.write_verdict.Goals as goal

pub returns-in_ok-write_counts-in-Lawful : goal.returns-in_ok-write_counts-in-Lawful
returns-in_ok-write_counts-in-Lawful c = grind (arith, common_steps)
