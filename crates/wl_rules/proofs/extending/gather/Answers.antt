use Rattle.std.proofs.Common.{sym, ap, ◌∙◌, rules, map-id, Option}
use Rattle.std.proofs.Math.Path.{ap₂}
use Rattle.std.proofs.lemmas.Iterator.Consumers.{YieldsList-end}
use Rattle.std.proofs.lemmas.Iterator.Adapters.{YieldsList-from_vec}
use Rattle.wl_rules.specs.Broken.{Broken, earlier}
use Rattle.wl_rules.specs.Extended.{Gathered, one_more}
use Rattle.wl_rules.specs.Extending.{extension_broken}
use Rattle.wl_rules.proofs.Extensions.{gathered_push, extensions_push}
use Rattle.wl_rules.proofs.extending.gather.Goals as goal

pub loop-next-preserved : goal.loop-next-preserved
loop-next-preserved g c = (
  c.in_ok-all.ensures
      ∙ ap (λ (x : Gathered). one_more x c.in-Some.next) c.loop-next.invariant.0
      ∙ sym (gathered_push c.args.gathered c.loop-next.yielded c.in-Some.next),
  c.earlier-first.ensures
      ∙ ap₂ (λ (a b : Option Broken). earlier a b) c.loop-next.invariant.1
      (c.extension_broken.ensures ∙ ap (λ (x : Gathered). extension_broken x c.in-Some.next) c.loop-next.invariant.0)
      ∙ sym (extensions_push c.args.gathered c.loop-next.yielded c.in-Some.next),
)

pub returns-clause-gathers : goal.returns-clause-gathers
returns-clause-gathers g c =
    let end = YieldsList-end (YieldsList-from_vec {s = c.into_iter-next-iterator.result} c.args.written.items
    (search rules) (search rules)) c.loop-next.yielded c.loop-next.next-iterator c.loop-next.yielded_by c.next.result
    c.next.new.self c.in-None.is c.next.ensures.steps in
    rw (← end.0, map-id) c.loop-next.invariant.0

pub returns-clause-first : goal.returns-clause-first
returns-clause-first g c =
    let end = YieldsList-end (YieldsList-from_vec {s = c.into_iter-next-iterator.result} c.args.written.items
    (search rules) (search rules)) c.loop-next.yielded c.loop-next.next-iterator c.loop-next.yielded_by c.next.result
    c.next.new.self c.in-None.is c.next.ensures.steps in
    rw (← end.0, map-id) c.loop-next.invariant.1
