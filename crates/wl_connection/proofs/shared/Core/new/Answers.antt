use Rattle.std.proofs.Common.{◌≤◌, length, false, refl, sym, subst, ap, arith}
use Rattle.wl_sigs.specs.Rules.{has_server_objects}
use Rattle.wl_object_map.specs.Objects.{Objects}
use Rattle.wl_message.specs.Arrived.{Arrived}
use Rattle.wl_message.specs.Outgoing.{Outgoing}
use Rattle.wl_connection.specs.Core.{HasDisplay, IsOrdinary}
use Rattle.wl_connection.proofs.Displays.{HasDisplay-opening}
use Rattle.wl_connection.proofs.shared.Core.new.Goals as goal

pub invariant_of-result : goal.invariant_of-result
invariant_of-result g c = record {
  store = omega (arith, c.in_ok-store.ensures.len, c.in_ok-store.store.ok.0, c.args.sizes.limit.in_range.0);
  room = subst (λ (o : Outgoing). o.limit.bytes ≤ length c.in_ok-store.store.items) (sym c.in_ok-outbox.ensures)
      (omega (arith, c.in_ok-store.ensures.len, c.in_ok-store.store.ok.0));
  display = subst HasDisplay (sym c.in_ok-objects.ensures) (HasDisplay-opening (has_server_objects c.args.tables.now));
  range = ap (λ (o : Objects). o.has_server_range) c.in_ok-objects.ensures;
  no_error = λ h. subst IsOrdinary (sym c.in_ok-outbox.ensures) (refl, refl, c.requires.out_bytes);
  whole = subst (λ (i : Arrived). i.limit.bytes ≤ i.capacity) (sym c.in_ok-inbox.ensures) c.requires.in_bytes_low;
}

pub returns : goal.returns
returns g c =
    λ i. record {
      tables = c.args.tables.now;
      view = c.in_ok-objects.ensures i;
      inbox = c.in_ok-inbox.ensures i;
      outbox = c.in_ok-outbox.ensures i;
      failed = false;
      read = 0;
    }
