use Rattle.program_jobs.specs.Output.{cut_short}
use Rattle.program_jobs.proofs.StreamEnds.{ended}
use Rattle.program_jobs.proofs.streaming.judge_by.Goals as goal

pub returns-in-Ok-clause-streamed : goal.returns-in-Ok-clause-streamed
returns-in-Ok-clause-streamed g c = ended _ _ _ _ _ _ _ _ _ _ _ _ _ _ c.in-Ok.ensures.judged c.finish.ensures.ended

pub returns-in-Err-clause-streamed : goal.returns-in-Err-clause-streamed
returns-in-Err-clause-streamed g c = cut_short c.in-Err.error c.failure_of.result c.in-Err.ensures.stopped
    c.failure_of.ensures c.report.ensures.status c.report.ensures.said
