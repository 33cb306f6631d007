use Rattle.std.proofs.Common.{◌≡◌, ◌++◌, map, take}
use Rattle.wl_sigs.specs.Joined.{interface_placed}
use Rattle.wl_sigs.specs.Extended.{all_grown}
use Rattle.wl_sigs.specs.Places.{place_in}
use Rattle.wl_sigs.proofs.tables.Tables.extended.Given as goal

abbrev pub invariant-loop-place : goal.invariant-loop-place
invariant-loop-place g l = l.interfaces.items
    ≡ all_grown (place_in l.places) l.past (take l.place l.entries) l.added

abbrev pub invariant-loop-interface : goal.invariant-loop-interface
invariant-loop-interface g l = l.interfaces.items
    ≡ all_grown (place_in l.places) l.past l.self l.gathered.added
    ++ map (interface_placed (place_in l.places) l.past) (take l.interface-index l.declared)
