use Rattle.std.proofs.Common.{refl}
use Rattle.program_jobs.specs.Running.{did, stopped, not_read}
use Rattle.program_jobs.proofs.running.run.Goals as goal

pub returns-in-Ok-job_of : goal.returns-in-Ok-job_of
returns-in-Ok-job_of g c = did c.in-Ok.words c.in-Ok-job_of.job c.in-Ok.is
    (rw c.as_slice.ensures.value at c.in-Ok-job_of.ensures.asked) c.run_job.ensures

pub returns-in-Err-job_of : goal.returns-in-Err-job_of
returns-in-Err-job_of g c = stopped c.in-Ok.words c.in-Err-job_of.stop c.in-Ok.is
    (rw c.as_slice.ensures.value at c.in-Err-job_of.ensures.stopped) c.report_stop.ensures

pub returns-in-Err : goal.returns-in-Err
returns-in-Err g c = not_read c.in-Err.error c.in-Err.is c.not_read-status.ensures refl
