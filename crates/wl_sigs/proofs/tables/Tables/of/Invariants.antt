use Rattle.std.proofs.Common.{◌≡◌, map, take}
use Rattle.wl_sigs.specs.Written.{interface_written}
use Rattle.wl_sigs.proofs.tables.Tables.of.Given as goal

-- the entries so far are those of the interfaces so far
abbrev pub invariant-interfaces : goal.invariant-interfaces
invariant-interfaces g l = l.entries.items ≡ map interface_written (take l.interface-index l.interfaces)
