use Rattle.std.proofs.Common.{refl}
use Rattle.program_jobs.specs.Output.{with_tables, without_tables}
use Rattle.program_jobs.proofs.streaming.judge.Goals as goal

pub returns-in-Ok-clause-streamed : goal.returns-in-Ok-clause-streamed
returns-in-Ok-clause-streamed g c = with_tables c.in-Ok.tables c.in-Ok.ensures.loaded c.judge_by.ensures.streamed

pub returns-in-Err-clause-streamed : goal.returns-in-Err-clause-streamed
returns-in-Err-clause-streamed g c = without_tables c.in-Err.failure c.report.ensures.status c.in-Err.ensures.refused
    refl c.report.ensures.said
