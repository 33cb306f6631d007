use Rattle.std.proofs.Common.{ap, subst, arith}
use Rattle.wl_object_map.specs.View.{Sound}
use Rattle.wl_object_map.specs.Sounds.{some_row}
use Rattle.wl_object_map.specs.Objects.{server_view}
use Rattle.wl_object_map.proofs.objects.Objects.len.Goals as goal

pub overflow_sub-result : goal.overflow_sub-result
overflow_sub-result g c =
    let view = g.T.Table.view in
    let sound = subst Sound (ap (server_view view) c.in-Some.is) c.self.invariant.server in
    let some = some_row (view c.in-Some.table) sound in
    let counted = c.len-in-Some.ensures in
    omega (arith, some, counted)
