use Rattle.std.proofs.Common.{◌≡◌, take}
use Rattle.std.specs.Prelude.{option_map}
use Rattle.wl_sigs.specs.BrokenLines.{broken}
use Rattle.wl_sigs.specs.Extending.{added_broken}
use Rattle.wl_sigs.specs.Places.{place_in}
use Rattle.wl_sigs.proofs.added.added_broken.Given as goal

abbrev pub invariant-loop-here : goal.invariant-loop-here
invariant-loop-here g l = option_map broken l.first
    ≡ added_broken l.known.interfaces.now (place_in l.known.places.now) l.known.ended.now 0
    (take l.here l.interfaces) l.added
