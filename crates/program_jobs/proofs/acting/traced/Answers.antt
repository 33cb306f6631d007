use Rattle.std.proofs.Common.{rules, inl, inr}
use Rattle.program_jobs.proofs.acting.traced.Goals as goal

-- the hint is about the pieces that the text records
pub returns-clause-lines : goal.returns-clause-lines
returns-clause-lines g c =
    let told = c.in_ok-lines.ensures.told in
    record {
      pieces = told.0;
      recorded = told.1;
      verdict = c.in_ok-lines.verdict;
      answers = told.2.1;
      whole = search rules;
      hinted = c.in_ok-hint.ensures told.0 told.1;
      status_is = search rules;
    }

-- a text with a trace has no bad line
pub returns-clause-bad : goal.returns-clause-bad
returns-clause-bad g c = λ n bad. elim (c.in_ok-lines.ensures.first n bad) [ inl e ↦ cc e | inr e ↦ cc e ]
