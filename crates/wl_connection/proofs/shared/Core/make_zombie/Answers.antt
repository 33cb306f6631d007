use Rattle.std.proofs.Common.{sym, subst, ap, ◌∙◌}
use Rattle.wl_object_map.specs.Objects.{Objects}
use Rattle.wl_connection.specs.Core.{HasDisplay}
use Rattle.wl_connection.proofs.Displays.{HasDisplay-zombied}
use Rattle.wl_connection.proofs.shared.Core.make_zombie.Goals as goal

pub invariant_of-self : goal.invariant_of-self
invariant_of-self g c = record {
  store = c.self.invariant.store;
  room = c.self.invariant.room;
  display = subst HasDisplay (sym c.make_zombie.ensures)
      (HasDisplay-zombied c.self.inside.objects c.args.id c.requires.not_display
      c.self.invariant.display);
  range = ap (λ (o : Objects). o.has_server_range) c.make_zombie.ensures ∙ c.self.invariant.range;
  no_error = c.self.invariant.no_error;
  whole = c.self.invariant.whole;
}
