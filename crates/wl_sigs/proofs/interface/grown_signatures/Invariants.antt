use Rattle.std.proofs.Common.{◌≡◌, ◌++◌, map, take}
use Rattle.wl_sigs.specs.Joined.{message_placed}
use Rattle.wl_sigs.specs.Places.{place_in}
use Rattle.wl_sigs.proofs.interface.grown_signatures.Given as goal

abbrev pub invariant-messages : goal.invariant-messages
invariant-messages g l = l.all.items
    ≡ l.signatures ++ map (message_placed (place_in l.places) l.past) (take l.message-index l.messages)
