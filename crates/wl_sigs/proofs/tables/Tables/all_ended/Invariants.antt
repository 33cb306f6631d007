use Rattle.std.proofs.Common.{◌≡◌, ◌++◌, length, map, take}
use Rattle.std.specs.List.{list_any}
use Rattle.wl_sigs.specs.Joined.{all_names, first_place}
use Rattle.wl_sigs.specs.Tables.{has_destroying_event}
use Rattle.wl_sigs.specs.Extended.{all_grown}
use Rattle.wl_sigs.proofs.tables.Tables.all_ended.Given as goal

abbrev pub invariant-loop-place : goal.invariant-loop-place
invariant-loop-place g l =
    let names = all_names l.entries l.declared in
    l.ended.items ≡ map has_destroying_event (all_grown (first_place names) (length names) (take l.place l.entries)
    l.added)

abbrev pub invariant-loop-interface : goal.invariant-loop-interface
invariant-loop-interface g l =
    let names = all_names l.self l.declared in
    l.ended.items ≡ map has_destroying_event (all_grown (first_place names) (length names) l.self l.gathered.added)
    ++ map (λ i. list_any (λ m. m.destroys) i.events) (take l.interface-index l.declared)
