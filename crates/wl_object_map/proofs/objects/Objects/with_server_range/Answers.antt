use Rattle.std.proofs.Common.{sym, subst}
use Rattle.wl_object_map.specs.View.{Sound}
use Rattle.wl_object_map.specs.Sounds.{Sound-opening}
use Rattle.wl_object_map.specs.Objects.{no_interface}
use Rattle.wl_object_map.proofs.objects.Objects.with_server_range.Goals as goal

pub invariant_of-result : goal.invariant_of-result
invariant_of-result g c = record {
  client = subst Sound (sym c.in_ok-client.ensures) (Sound-opening c.args.display);
  server = subst Sound (sym c.in_ok-new.ensures) (Sound-opening no_interface);
}
