use Rattle.std.proofs.Common.{◌≡◌, sym, ◌∙◌, ap, subst, refl, is_some, reverse, true, false}
use Rattle.std.specs.FinMap.{from_entries}
use Rattle.wl_object_map.specs.View.{View, Sound, is_live, zombie, with_zombie, zombied}
use Rattle.wl_object_map.specs.Sounds.{Sound-zombied, lives_held}
use Rattle.wl_object_map.proofs.Rows.{get_rows, rows_insert, same_view}
use Rattle.wl_object_map.proofs.map_table.MapTableTable.make_zombie.Goals as goal

pub returns-in_default : goal.returns-in_default
returns-in_default g c =
    let held = lives_held (record {
      rows = from_entries c.self.inside.rows.entries;
      freed = reverse c.self.inside.freed.items;
      used = c.self.inside.used;
      births = c.self.inside.births;
    })
    c.args.id (subst (λ (v : View). is_live v c.args.id ≡ true) (sym c.self.view_is) c.requires.live) in
    let e = get_rows c.self.inside.rows.entries c.args.id in
    let v = c.in_default.ensures.value in
    let bad : true ≡ false = sym held ∙ ap is_some (e ∙ sym v) in cc

pub invariant_of-self-2 : goal.invariant_of-self-2
invariant_of-self-2 g c =
    let w = (c.get_mut.follows.holds (zombie c.in-Some.entry.now)).3 (ap is_some (sym c.in-Some.ensures.value)) in
    let e = rows_insert c.self.inside.rows.entries _ c.args.id (zombie c.in-Some.entry.now) w.0 in
    let got = get_rows c.self.inside.rows.entries c.args.id ∙ sym c.in-Some.ensures.value in
    let z = same_view {xs = reverse c.self.inside.freed.items} c.self.inside.births
    (e ∙ ap (with_zombie (from_entries c.self.inside.rows.entries) c.args.id) (sym got)) refl refl in
    (subst Sound (sym z) (Sound-zombied _ c.args.id c.self.invariant.0 c.requires.not_display), c.self.invariant.1)

pub returns : goal.returns
returns g c =
    let w = (c.get_mut.follows.holds (zombie c.in-Some.entry.now)).3 (ap is_some (sym c.in-Some.ensures.value)) in
    let e = rows_insert c.self.inside.rows.entries _ c.args.id (zombie c.in-Some.entry.now) w.0 in
    let got = get_rows c.self.inside.rows.entries c.args.id ∙ sym c.in-Some.ensures.value in
    same_view {xs = reverse c.self.inside.freed.items} c.self.inside.births
    (e ∙ ap (with_zombie (from_entries c.self.inside.rows.entries) c.args.id) (sym got)) refl refl
    ∙ ap (λ (v : View). zombied v c.args.id) c.self.view_is
