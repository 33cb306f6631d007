use Rattle.std.proofs.Common.{ap, arith}
use Rattle.std.specs.FinMap.{len}
use Rattle.wl_object_map.specs.View.{View}
use Rattle.wl_object_map.proofs.SlotViews.{counted}
use Rattle.wl_object_map.proofs.slot_table.SlotTableTable.len.Goals as goal

pub overflow_sub-result : goal.overflow_sub-result
overflow_sub-result g c = omega (arith, counted _ _ _ _ c.self.invariant)

pub returns : goal.returns
returns g c = omega (arith, counted _ _ _ _ c.self.invariant, ap (λ (v : View). len v.rows) c.self.view_is)
