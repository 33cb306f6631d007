use Rattle.std.proofs.Common.{ℕ, sym, ◌∙◌, ap, subst, refl, arith, reverse, List}
use Rattle.std.specs.Ordering.{nat_cmp}
use Rattle.std.specs.FinMap.{from_entries, insert}
use Rattle.wl_object_map.specs.declared.object.Entry.{Entry}
use Rattle.wl_object_map.specs.declared.object.State.TheVariants.{Live}
use Rattle.wl_object_map.specs.View.{Sound}
use Rattle.wl_object_map.specs.Sounds.{Sound-opening}
use Rattle.wl_object_map.proofs.Rows.{rows_insert, same_view}
use Rattle.wl_object_map.proofs.map_table.MapTableTable.new.Goals as goal

pub invariant_of-result : goal.invariant_of-result
invariant_of-result g c =
    let e = rows_insert c.new-rows.result.entries c.insert.new.self.entries 1 _ c.in_ok-insert.ensures.updates.0 in
    let none = ap (λ (es : List (ℕ × Entry)). insert (from_entries {R = nat_cmp} es) 1
    (record { birth = 0; iface = c.args.display; version = 1; state = Live })) c.new-rows.ensures.empty in (
      subst Sound (sym (same_view 1 (e ∙ none) (ap reverse c.in_ok-freed.ensures.items) refl))
          (Sound-opening c.args.display),
      omega (arith, c.in_ok-freed.ensures.exact),
    )
