-- A handle's target is borrowed, and the handle then leads to what the borrower left.
use Rattle.std.specs.Borrow.{Lends, MutBor, Fml}
use Rattle.waywire_c.specs.declared.end_handle.EndHandle.{EndHandle}
use Rattle.waywire_c.specs.contracts.end_handle.EndHandle.{the_row as end_handle}
use Rattle.waywire_c.specs.contracts.held.HeldEnd.{the_row as held_end}
use Rattle.waywire_c.specs.declared.inspector_handle.InspectorHandle.{InspectorHandle}
use Rattle.waywire_c.specs.contracts.inspector_handle.InspectorHandle.{the_row as inspector_handle}
use Rattle.waywire_c.specs.contracts.held.HeldInspector.{the_row as held_inspector}

abbrev pub holding_end : EndHandle → held_end.Denot → EndHandle
holding_end h w = record { ptr = h.ptr; alloc = h.alloc; held = w }

abbrev pub LendsEnd : MutBor EndHandle → MutBor held_end.Denot → Fml
LendsEnd h r = Lends end_handle held_end h r (holding_end h.now)

abbrev pub with_inspector : InspectorHandle → held_inspector.Denot → InspectorHandle
with_inspector h w = record { ptr = h.ptr; alloc = h.alloc; held = w }

abbrev pub LendsInspector : MutBor InspectorHandle → MutBor held_inspector.Denot → Fml
LendsInspector h r = Lends inspector_handle held_inspector h r (with_inspector h.now)
