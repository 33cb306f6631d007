use Rattle.std.proofs.Common.{rules}
use Rattle.program_jobs.proofs.failure.Failure.report.Goals as goal

pub returns : goal.returns
returns c = search rules
