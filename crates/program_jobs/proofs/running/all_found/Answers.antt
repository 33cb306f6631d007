use Rattle.std.proofs.Common.{◌∙◌, ℕ, List, [], Global, String, map, rules, subst, sym}
use Rattle.std.specs.Prelude.{Ok, string_bytes}
use Rattle.std.specs.Fn.{FnReturnsAt}
use Rattle.std.specs.IoError.{error_kind}
use Rattle.program_jobs.specs.Running.{Finds, IsOpenFailure, no_word}
use Rattle.program_jobs.proofs.Opening.{fails_for, found_more}
use Rattle.program_jobs.proofs.running.all_found.Goals as goal

pub words-init : goal.words-init
words-init g c = subst (λ (names : List (String Global)). Finds (FnReturnsAt g.L.Fn c.args.finder.now) []
    (map string_bytes names)) (sym c.new-all.ensures.items) no_word

pub words-preserved : goal.words-preserved
words-preserved g c =
    let one : FnReturnsAt g.L.Fn c.args.finder.now c.as_str.result.now (Ok c.in-Ok.found) = search rules in
    found_more (FnReturnsAt g.L.Fn c.args.finder.now) c.args.words.now c.words.all.items c.append.new.self.items
    c.words.word-index c.word-item.result c.in-Ok.found c.words-test.true c.word-item.is c.words.invariant
    (subst (λ (name : List ℕ). FnReturnsAt g.L.Fn c.args.finder.now name (Ok c.in-Ok.found)) c.as_str.ensures.value one)
    c.in_ok-append-in-Ok.ensures.items

pub returns-in-Err-clause-refused : goal.returns-in-Err-clause-refused
returns-in-Err-clause-refused g c =
    let said = subst (λ (name : List ℕ). IsOpenFailure name (error_kind c.in-Err.error) c.open_failure.result)
    (c.as_str-in-Err.ensures.value ∙ sym c.as_str.ensures.value) c.open_failure.ensures in
    fails_for (FnReturnsAt g.L.Fn c.args.finder.now) c.args.words.now c.words.word-index c.word-item.result
    c.as_str.result.now c.in-Err.error c.open_failure.result c.words-test.true c.word-item.is c.as_str.ensures.value
    (search rules) said
