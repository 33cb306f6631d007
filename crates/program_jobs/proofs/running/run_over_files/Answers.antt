use Rattle.std.proofs.Common.{List, Global, String, map, refl, subst}
use Rattle.std.specs.Prelude.{string_bytes}
use Rattle.std.specs.Fn.{FnReturnsAt}
use Rattle.program_jobs.specs.Running.{AreOpened, FailsForOne, Finds, over, not_found, not_opened}
use Rattle.program_jobs.proofs.running.run_over_files.Goals as goal

pub returns-in-Ok-all_opened : goal.returns-in-Ok-all_opened
returns-in-Ok-all_opened g c =
    let finds = subst (λ (words : List (String Global)). Finds (FnReturnsAt g.L.Fn c.args.finder.now)
    (map string_bytes words) (map string_bytes c.in-Ok.found.items)) c.as_slice.ensures.value c.in-Ok.ensures.found in
    let opened = subst (λ (names : List (String Global)). AreOpened (FnReturnsAt g.F.Fn c.args.openers.0.now)
    (map string_bytes names) c.in-Ok-all_opened.files.items) c.as_slice-in-Ok.ensures.value
    c.in-Ok-all_opened.ensures.opened in
    over (map string_bytes c.in-Ok.found.items) c.in-Ok-all_opened.files.items finds opened c.run_over_file.ensures

pub returns-in-Ok : goal.returns-in-Ok
returns-in-Ok g c =
    let finds = subst (λ (words : List (String Global)). Finds (FnReturnsAt g.L.Fn c.args.finder.now)
    (map string_bytes words) (map string_bytes c.in-Ok.found.items)) c.as_slice.ensures.value c.in-Ok.ensures.found in
    let fails = subst (λ (names : List (String Global)). FailsForOne (FnReturnsAt g.F.Fn c.args.openers.0.now)
    (map string_bytes names) c.in-Err-all_opened.failure) c.as_slice-in-Ok.ensures.value
    c.in-Err-all_opened.ensures.refused in
    not_opened (map string_bytes c.in-Ok.found.items) c.in-Err-all_opened.failure finds fails c.report.ensures.status
    refl c.report.ensures.said

pub returns : goal.returns
returns g c =
    let fails = subst (λ (words : List (String Global)). FailsForOne (FnReturnsAt g.L.Fn c.args.finder.now)
    (map string_bytes words) c.in-Err.failure) c.as_slice.ensures.value c.in-Err.ensures.refused in
    not_found c.in-Err.failure fails c.report-in-Err.ensures.status refl c.report-in-Err.ensures.said
