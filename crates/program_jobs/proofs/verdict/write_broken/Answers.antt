use Rattle.std.proofs.Common.{rules}
use Rattle.program_jobs.proofs.verdict.write_broken.Goals as goal

pub returns-in-Lawful : goal.returns-in-Lawful
returns-in-Lawful c = search rules
