use Rattle.std.proofs.Common.{refl, sym, subst, ◌∙◌}
use Rattle.wl_object_map.specs.Objects.{ObjectsAreSound, opened}
use Rattle.wl_connection.specs.Core.{Core}
use Rattle.wl_connection.proofs.Displays.{HasDisplay-opening_next}
use Rattle.wl_connection.proofs.ServerRange.{range_of}
use Rattle.wl_connection.proofs.shared.Core.open_next.Goals as goal

pub invariant_of-self : goal.invariant_of-self
invariant_of-self g c = record {
  store = c.self.invariant.store;
  room = c.self.invariant.room;
  display = HasDisplay-opening_next c.args.maker c.open_next.result c.self.inside.objects
      c.open_next.new.self c.args.iface c.args.version
      (subst (λ (core : Core). ObjectsAreSound core.view) (sym c.self.view_is) c.requires) c.self.invariant.display
      c.open_next.ensures.ok c.open_next.ensures.err;
  range = range_of c.open_next.result c.self.inside.objects c.open_next.new.self
      (opened c.args.maker c.self.inside.objects c.args.iface c.args.version)
      c.open_next.ensures.ok c.open_next.ensures.err refl ∙ c.self.invariant.range;
  no_error = c.self.invariant.no_error;
  whole = c.self.invariant.whole;
}
