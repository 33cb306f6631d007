use Rattle.std.proofs.Common.{◌∙◌, ◌++◌, ℕ, List, ap, sym}
use Rattle.std.specs.List.{flat_map}
use Rattle.std.proofs.lemmas.List.{append-nil, take_all}
use Rattle.program_jobs.specs.declared.tables.ReadText.{ReadText}
use Rattle.program_jobs.specs.Texts.{named_texts}
use Rattle.program_jobs.proofs.Texts.{after_feed, joined_all, joined_more}
use Rattle.program_jobs.proofs.tables.as_one.Goals as goal

pub texts-init : goal.texts-init
texts-init g c = sym (append-nil _)

pub texts-preserved : goal.texts-preserved
texts-preserved g c = joined_more c.extend_from_slice.new.self.items c.in-Some.others.now c.texts.text-index
    c.text-item.result c.texts.whole.items c.push.new.self.items c.extend_from_slice-in-texts.new.self.items
    c.deref-in-texts.result.now c.texts-test.true c.text-item.is c.texts.invariant c.in_ok-push.ensures.items
    c.in_ok-extend_from_slice-2.ensures.items c.deref-in-texts.ensures.value

pub returns : goal.returns
returns g c =
    let begins = c.in_ok-extend_from_slice.ensures.items
    ∙ ap (λ (l : List ℕ). l ++ c.deref.result.now) c.new-whole.ensures.items ∙ c.deref.ensures.value in
    let all = c.texts.invariant
    ∙ ap (λ (ts : List (ReadText _)). c.extend_from_slice.new.self.items ++ flat_map after_feed (named_texts ts))
    (take_all c.texts.text-index c.in-Some.others.now c.texts-test.false) in
    joined_all c.args.texts.now c.in-Some.first.now c.in-Some.others.now c.extend_from_slice.new.self.items
    c.texts.whole.items c.in-Some.ensures.cases begins all
