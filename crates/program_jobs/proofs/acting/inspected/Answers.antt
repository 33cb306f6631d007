use Rattle.std.proofs.Common.{inl, inr}
use Rattle.program_jobs.proofs.acting.inspected.Goals as goal

-- a text with a recording has no bad line
pub returns-clause-bad : goal.returns-clause-bad
returns-clause-bad g c = λ n bad. elim (c.in_ok-recording.ensures.first n bad) [ inl e ↦ cc e | inr e ↦ cc e ]
