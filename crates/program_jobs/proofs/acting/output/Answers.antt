use Rattle.std.proofs.Common.{◌≡◌}
use Rattle.program_jobs.proofs.acting.output.Goals as goal

pub returns-in-Trace-clause-bad : goal.returns-in-Trace-clause-bad
returns-in-Trace-clause-bad g c = λ text n known bad reads.
    let whole : c.in_ok-text-in-Trace.text.items ≡ text = rw known at c.in_ok-text-in-Trace.ensures.whole.all in
    c.traced.ensures.bad n (rw (c.deref.ensures.value, whole) bad)

pub returns-in-Check-clause-bad : goal.returns-in-Check-clause-bad
returns-in-Check-clause-bad g c = λ text n known bad reads.
    let whole : c.in_ok-text-in-Check.text.items ≡ text = rw known at c.in_ok-text-in-Check.ensures.whole.all in
    c.checked.ensures.bad n (rw (c.deref-in-Check.ensures.value, whole) bad)
