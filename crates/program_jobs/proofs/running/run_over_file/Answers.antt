use Rattle.std.proofs.Common.{List, ℕ, rules, refl, subst}
use Rattle.std.specs.Fn.{FnReturnsAt}
use Rattle.program_jobs.specs.Running.{OpensFile, opens_it, fails}
use Rattle.program_jobs.specs.Texts.{sources_of}
use Rattle.program_jobs.proofs.running.run_over_file.Goals as goal

pub returns-in-Ok : goal.returns-in-Ok
returns-in-Ok g c =
    subst (λ (name : List ℕ). OpensFile g.R.Read.remaining g.O.Write.contents g.E.Write.contents
    (FnReturnsAt g.F.Fn c.args.opener.now) c.args.job.now
    (sources_of g.T.Read.remaining c.args.tables.items) name c.args.writers.now.out c.act.new.writers.out c.args.writers.now.err c.act.new.writers.err c.act.result)
    c.as_str.ensures.value (opens_it c.in-Ok.file (search rules) c.act.ensures.acted)

pub returns-in-Err : goal.returns-in-Err
returns-in-Err g c =
    subst (λ (name : List ℕ). OpensFile g.R.Read.remaining g.O.Write.contents g.E.Write.contents
    (FnReturnsAt g.F.Fn c.args.opener.now) c.args.job.now
    (sources_of g.T.Read.remaining c.args.tables.items) name c.args.writers.now.out c.args.writers.now.out c.args.writers.now.err c.report.new.err
    c.report.result)
    c.as_str.ensures.value (fails c.in-Err.error c.open_failure.result (search rules)
    (search rules) c.report.ensures.status refl c.report.ensures.said)
