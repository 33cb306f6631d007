use Rattle.std.proofs.Common.{refl, ◌∙◌}
use Rattle.wl_object_map.specs.Objects.{opened_at}
use Rattle.wl_connection.proofs.Displays.{HasDisplay-open}
use Rattle.wl_connection.proofs.ServerRange.{range_of}
use Rattle.wl_connection.proofs.shared.Core.open_at.Goals as goal

pub invariant_of-self : goal.invariant_of-self
invariant_of-self g c = record {
  store = c.self.invariant.store;
  room = c.self.invariant.room;
  display = HasDisplay-open c.self.inside.objects
      c.open_at.new.self c.args.new.id c.args.new.iface c.args.new.version c.open_at.result
      c.open_at.ensures.ok c.open_at.ensures.err c.open_at.ensures.in_use c.self.invariant.display;
  range = range_of c.open_at.result c.self.inside.objects c.open_at.new.self
      (opened_at c.self.inside.objects c.args.new.id c.args.new.iface c.args.new.version)
      c.open_at.ensures.ok c.open_at.ensures.err refl ∙ c.self.invariant.range;
  no_error = c.self.invariant.no_error;
  whole = c.self.invariant.whole;
}
