use Rattle.std.proofs.Common.{rules}
use Rattle.program_jobs.proofs.verdict.status_of.Goals as goal

pub returns-in-Broken-clause-status : goal.returns-in-Broken-clause-status
returns-in-Broken-clause-status c = search rules
