use Rattle.std.proofs.Common.{◌≡◌, length, take}
use Rattle.std.specs.Prelude.{option_map}
use Rattle.wl_sigs.specs.Broken.{messages_broken}
use Rattle.wl_sigs.specs.BrokenLines.{broken}
use Rattle.wl_sigs.specs.Extending.{added_rule}
use Rattle.wl_sigs.specs.Places.{place_in}
use Rattle.wl_sigs.specs.Tables.{messages_of}
use Rattle.wl_sigs.proofs.added.added_side_broken.Given as goal

abbrev pub invariant-loop-index : goal.invariant-loop-index
invariant-loop-index g l =
    option_map broken l.first ≡ messages_broken (added_rule l.known.interfaces.now (place_in l.known.places.now)
    l.known.ended.now l.here l.entry l.more l.side) (length (messages_of l.side l.entry)) (take l.index l.messages)
