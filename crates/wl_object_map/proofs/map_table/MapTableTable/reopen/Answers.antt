use Rattle.std.proofs.Common.{◌≡◌, ◌+◌, sym, ◌∙◌, ap, subst, is_some, true, false}
use Rattle.wl_object_map.specs.declared.object.Entry.{Entry}
use Rattle.wl_object_map.specs.declared.object.State.TheVariants.{Live}
use Rattle.wl_object_map.specs.View.{View, Sound, is_held, has_room, opened_at}
use Rattle.wl_object_map.specs.Sounds.{Sound-reopened, freed-reopened, used-reopened}
use Rattle.wl_object_map.proofs.Rows.{get_rows, rows_insert, same_view}
use Rattle.wl_object_map.proofs.map_table.MapTableTable.reopen.Goals as goal

pub returns-in_default-clause-table : goal.returns-in_default-clause-table
returns-in_default-clause-table g c =
    let held = subst (λ (v : View). is_held v c.args.id ≡ true) (sym c.self.view_is) c.requires.held in
    let e = get_rows c.self.inside.rows.entries c.args.id in
    let v = c.in_default.ensures.value in
    let bad : true ≡ false = sym held ∙ ap is_some (e ∙ sym v) in cc

pub invariant_of-self-2 : goal.invariant_of-self-2
invariant_of-self-2 g c =
    let held = subst (λ (v : View). is_held v c.args.id ≡ true) (sym c.self.view_is) c.requires.held in
    let room = subst (λ (v : View). has_room v c.args.id ≡ true) (sym c.self.view_is) c.requires.room in
    let row : Entry = record {
      birth = c.self.inside.births;
      iface = c.args.iface;
      version = c.args.version;
      state = Live;
    } in
    let w = (c.get_mut.follows.holds row).3 (ap is_some (sym c.in-Some.ensures.value)) in
    let e = rows_insert c.self.inside.rows.entries _ c.args.id row w.0 in
    let z = same_view (c.self.inside.births + 1) e
    (sym (freed-reopened _ c.args.id c.args.iface c.args.version c.self.invariant.0 held))
    (sym (used-reopened _ c.args.id c.args.iface c.args.version c.self.invariant.0 held)) in (
      subst Sound (sym z)
          (Sound-reopened _ c.args.id c.args.iface c.args.version c.self.invariant.0 held c.requires.not_display room),
      c.self.invariant.1,
    )

pub returns-clause-table : goal.returns-clause-table
returns-clause-table g c =
    let held = subst (λ (v : View). is_held v c.args.id ≡ true) (sym c.self.view_is) c.requires.held in
    let row : Entry = record {
      birth = c.self.inside.births;
      iface = c.args.iface;
      version = c.args.version;
      state = Live;
    } in
    let w = (c.get_mut.follows.holds row).3 (ap is_some (sym c.in-Some.ensures.value)) in
    let e = rows_insert c.self.inside.rows.entries _ c.args.id row w.0 in
    same_view (c.self.inside.births + 1) e
    (sym (freed-reopened _ c.args.id c.args.iface c.args.version c.self.invariant.0 held))
    (sym (used-reopened _ c.args.id c.args.iface c.args.version c.self.invariant.0 held))
    ∙ ap (λ (v : View). opened_at v c.args.id c.args.iface c.args.version) c.self.view_is
