use Rattle.std.proofs.Common.{◌∙◌}
use Rattle.wl_objects.proofs.ParsedLemmas.{owned-next, owned-end}
use Rattle.wl_objects.proofs.args.Args.to_owned.Goals as goal

pub left-preserved : goal.left-preserved
left-preserved g c = rw c.in_ok-push.ensures.items
    (owned-next c.left.items.items _ _ _ _ c.in-Some.ensures c.in_ok-owned.ensures ∙ c.left.invariant)

pub returns-clause-ok : goal.returns-clause-ok
returns-clause-ok g c = c.from_vec.ensures ∙ (owned-end _ _ c.in_default.ensures.0 ∙ c.left.invariant)
