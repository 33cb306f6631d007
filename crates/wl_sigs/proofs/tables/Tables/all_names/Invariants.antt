use Rattle.std.proofs.Common.{◌≡◌, ◌++◌, map, take}
use Rattle.wl_sigs.proofs.tables.Tables.all_names.Given as goal

abbrev pub invariant-loop-entry : goal.invariant-loop-entry
invariant-loop-entry g l = l.names.items ≡ map (λ i. i.name) (take l.entry-index l.entry-items)

abbrev pub invariant-loop-interface : goal.invariant-loop-interface
invariant-loop-interface g l = l.names.items
    ≡ map (λ i. i.name) l.fn.self ++ map (λ i. i.name) (take l.interface-index l.written)
