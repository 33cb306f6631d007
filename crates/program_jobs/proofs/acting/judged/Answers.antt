use Rattle.std.proofs.Common.{rules, inl, inr}
use Rattle.program_jobs.proofs.acting.judged.Goals as goal

-- the hint is about the pieces that the text records
pub returns-clause-line : goal.returns-clause-line
returns-clause-line g c =
    let told = c.in_ok-verdict.ensures.told in
    record {
      pieces = told.0;
      recorded = told.1;
      verdict = c.in_ok-verdict.verdict;
      answers = told.2;
      whole = search rules;
      hinted = c.in_ok-hint.ensures told.0 told.1;
      status_is = search rules;
    }

-- a text with a verdict has no bad line
pub returns-clause-bad : goal.returns-clause-bad
returns-clause-bad g c = λ n bad. elim (c.in_ok-verdict.ensures.first n bad) [ inl e ↦ cc e | inr e ↦ cc e ]
