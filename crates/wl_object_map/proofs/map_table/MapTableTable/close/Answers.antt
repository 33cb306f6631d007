use Rattle.std.proofs.Common.{◌≡◌, sym, ◌∙◌, ap, subst, refl, arith, true, reverse, [], ◌∷◌}
use Rattle.std.proofs.lemmas.List.{reverse-append, length-reverse}
use Rattle.wl_object_map.specs.View.{View, Sound, is_held, closed}
use Rattle.wl_object_map.specs.Sounds.{Sound-closed, held_len}
use Rattle.wl_object_map.proofs.Rows.{rows_remove, same_view}
use Rattle.wl_object_map.proofs.map_table.MapTableTable.close.Goals as goal

pub push_reserved-requires : goal.push_reserved-requires
push_reserved-requires g c =
    let held = subst (λ (v : View). is_held v c.args.id ≡ true) (sym c.self.view_is) c.requires.held in
    let count = c.self.invariant.0.count in
    let some = held_len _ _ held in
    omega (arith, length-reverse c.self.inside.freed.items)

pub invariant_of-self : goal.invariant_of-self
invariant_of-self g c =
    let e = same_view c.self.inside.births (rows_remove _ _ c.args.id c.remove.ensures.updates.0)
    (ap reverse c.push_reserved.ensures.items ∙ reverse-append c.self.inside.freed.items (c.args.id ∷ [])) refl
    in (
      subst Sound (sym e) (Sound-closed _ c.args.id c.self.invariant.0
          (subst (λ (v : View). is_held v c.args.id ≡ true) (sym c.self.view_is) c.requires.held)
          c.requires.not_display),
      omega arith,
    )

pub returns : goal.returns
returns g c =
    same_view _ (rows_remove _ _ c.args.id c.remove.ensures.updates.0)
    (ap reverse c.push_reserved.ensures.items ∙ reverse-append c.self.inside.freed.items (c.args.id ∷ [])) refl
    ∙ ap (λ (v : View). closed v c.args.id) c.self.view_is
