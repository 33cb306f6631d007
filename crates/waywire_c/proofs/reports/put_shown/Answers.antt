use Rattle.std.proofs.Common.{◌<◌, length, arith}
use Rattle.wl_objects.specs.Parsed.{seen_args}
use Rattle.waywire_c.proofs.ToldArguments.{none-left, tells-one}
use Rattle.waywire_c.proofs.reports.put_shown.Goals as goal
use Rattle.waywire_c.proofs.reports.put_shown.Goals.{in-Some, in_default}

pub places-preserved : goal.places-preserved
places-preserved c =
    let room : c.places.place < length c.args.slots.now = omega arith in
    let there : c.places.place < length (seen_args c.args.args.now) = omega arith in
    elim c.match-next.branch [
      | in-Some w ↦ tells-one _ _ _ _ _ _ _ _ _ c.places.invariant w.show.ensures
          (rw w.in-Some.is at c.next.ensures) w.slots-is room
      | in_default w ↦ absurd (none-left _ _ _ c.places.invariant.1 (rw w.in_default.is at c.next.ensures).0 there)
    ]
