use Rattle.std.proofs.Common.{rules, ◌≡◌, ◌≤◌, ℕ, List, [], ◌∷◌, ◌++◌, sym, ◌∙◌, ap, subst, arith}
use Rattle.std.proofs.lemmas.Fn.{filter_same}
use Rattle.std.proofs.lemmas.Grind.{common_steps}
use Rattle.wl_object_map.specs.View.{times, without}
use Rattle.wl_object_map.proofs.Freed.{without-last}
use Rattle.wl_object_map.proofs.map_table.take_out.Goals as goal

pub returns-then-last-id-clause-items : goal.returns-then-last-id-clause-items
returns-then-last-id-clause-items g c =
    filter_same _ _ _ (λ x b f' k. search rules) _ _ c.retain.ensures.filtered
    ∙ ap (λ (xs : List ℕ). without c.args.id xs) (c.push_reserved.ensures.items ∙ sym c.in-Some.ensures.items)

pub returns-else-last-id-clause-items : goal.returns-else-last-id-clause-items
returns-else-last-id-clause-items g c =
    let same : c.in-Some.last ≡ c.args.id = grind (arith, common_steps, c.if-last-id.false) in
    let e = c.in-Some.ensures.items ∙ ap (λ (x : ℕ). c.pop.new.self.items ++ x ∷ []) same in
    sym (ap (λ (xs : List ℕ). without c.args.id xs) e
    ∙ without-last c.args.id _ (subst (λ (xs : List ℕ). times c.args.id xs ≤ 1) e c.requires))
