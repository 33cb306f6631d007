use Rattle.std.proofs.Common.{◌≡◌, ℕ, ◌+◌, ◌≤◌, sym, ◌∙◌, ap, subst, arith, reverse, true, List}
use Rattle.wl_object_map.specs.View.{View, Sound, free_or_next, has_room, opened_at, times, without}
use Rattle.wl_object_map.specs.Sounds.{Sound-opened_at, at_most_once}
use Rattle.wl_object_map.proofs.Rows.{same_view}
use Rattle.wl_object_map.proofs.Freed.{reverse-filter, times-reverse}
use Rattle.wl_object_map.proofs.map_table.MapTable.open.Goals as goal

pub take_out-requires : goal.take_out-requires
take_out-requires g c = subst (λ (xs : List ℕ). times c.args.id xs ≤ 1) (sym c.insert_row.ensures.freed)
    (subst (λ n. n ≤ 1) (times-reverse c.args.id c.self.inside.freed.items)
    (at_most_once _ c.args.id c.self.invariant.0))

pub invariant_of-self-2 : goal.invariant_of-self-2
invariant_of-self-2 g c =
    let freed = ap reverse c.take_out.ensures.items ∙ reverse-filter _ c.insert_row.new.freed.items
    ∙ ap (λ (xs : List ℕ). without c.args.id (reverse xs)) c.insert_row.ensures.freed in
    let e = same_view (c.self.inside.births + 1) c.in_ok-insert_row.ensures.rows freed c.max-self-inside.ensures in
    let sound = Sound-opened_at _ c.args.id c.args.iface c.args.version c.self.invariant.0
    (subst (λ (v : View). free_or_next v c.args.id ≡ true) (sym c.self.view_is) c.requires.free)
    (subst (λ (v : View). has_room v c.args.id ≡ true) (sym c.self.view_is) c.requires.room) in (
      subst Sound (sym e) sound,
      grind (
        arith,
        c.take_out.ensures.capacity,
        c.insert_row.ensures.capacity,
        c.in_ok-insert_row.ensures.room,
        c.max-self-inside.ensures,
        c.self.invariant.1,
      ),
    )

pub returns-clause-ok : goal.returns-clause-ok
returns-clause-ok g c =
    let freed = ap reverse c.take_out.ensures.items ∙ reverse-filter _ c.insert_row.new.freed.items
    ∙ ap (λ (xs : List ℕ). without c.args.id (reverse xs)) c.insert_row.ensures.freed in
    same_view (c.self.inside.births + 1) c.in_ok-insert_row.ensures.rows freed c.max-self-inside.ensures
    ∙ ap (λ (v : View). opened_at v c.args.id c.args.iface c.args.version) c.self.view_is
