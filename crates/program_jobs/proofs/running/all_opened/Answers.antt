use Rattle.std.proofs.Common.{List, [], rules, subst, sym}
use Rattle.std.specs.Fn.{FnReturnsAt}
use Rattle.program_jobs.specs.declared.tables.TablesFile.{TablesFile}
use Rattle.program_jobs.specs.Running.{AreOpened, no_file}
use Rattle.program_jobs.proofs.Opening.{fails_for, opened_more}
use Rattle.program_jobs.proofs.running.all_opened.Goals as goal

pub names-init : goal.names-init
names-init g c = subst (λ (files : List (TablesFile g.row.R.Denot)). AreOpened (FnReturnsAt g.F.Fn c.args.opener.now)
    [] files) (sym c.new-files.ensures.items) no_file

pub names-preserved : goal.names-preserved
names-preserved g c = opened_more (FnReturnsAt g.F.Fn c.args.opener.now) c.args.names.now c.names.files.items
    c.push.new.self.items c.names.word-index c.word-item.result _ c.names-test.true c.word-item.is
    c.as_str-name.ensures.value c.names.invariant (search rules) c.in_ok-push-in-Ok.ensures.items

pub returns-in-Err-clause-refused : goal.returns-in-Err-clause-refused
returns-in-Err-clause-refused g c =
    fails_for (FnReturnsAt g.F.Fn c.args.opener.now) c.args.names.now c.names.word-index c.word-item.result
    c.as_str-name.result.now c.in-Err.error c.open_failure.result c.names-test.true c.word-item.is
    c.as_str-name.ensures.value (search rules) c.open_failure.ensures
