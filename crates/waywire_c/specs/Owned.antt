-- What a handle owns: the block of a box, except for tables, which are only read.
use base.Fml.{Fml}
use base.Stored.{Coded}
use denote.RawPtr.{Ptr}
use Rattle.core.specs.Ptr.{static_ref_at}
use Rattle.std.specs.Box.Ownership.{box_owns}
use Rattle.std.specs.Global.{Global}
use Rattle.std_heap.specs.contracts.GlobalAllocator.TheImpl.{ghosts}
use Rattle.waywire_c.specs.contracts.held.HeldTables as tables
use Rattle.waywire_c.specs.contracts.held.HeldEnd as end
use Rattle.waywire_c.specs.contracts.held.HeldInspector as inspector

-- a handle of tables holds what a `&'static` to them holds, so it can be copied
abbrev pub lends_tables : Ptr → tables.the_row.Denot → Fml
lends_tables = static_ref_at tables.the_row

abbrev pub owns_tables : Global → Ptr → tables.the_row.Denot → Fml
owns_tables alloc = box_owns (ghosts.dealloc_token alloc) tables.the_row

abbrev pub held_tables_coded : Coded tables.the_row.Denot
held_tables_coded = tables.the_row.coded

abbrev pub owns_end : Global → Ptr → end.the_row.Denot → Fml
owns_end alloc = box_owns (ghosts.dealloc_token alloc) end.the_row

abbrev pub held_end_coded : Coded end.the_row.Denot
held_end_coded = end.the_row.coded

abbrev pub owns_inspector : Global → Ptr → inspector.the_row.Denot → Fml
owns_inspector alloc = box_owns (ghosts.dealloc_token alloc) inspector.the_row

abbrev pub held_inspector_coded : Coded inspector.the_row.Denot
held_inspector_coded = inspector.the_row.coded
