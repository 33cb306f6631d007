use Rattle.std.proofs.Common.{arith}
use Rattle.wl_objects.proofs.CheckedCalls.{measured-fits, measured-len, few}
use Rattle.wl_objects.proofs.calling.check_call.Goals as goal

pub returns-clause-len : goal.returns-clause-len
returns-clause-len g c = measured-len c.args.limit c.kinds.result.now c.args.args.now c.in_ok-len.field-0
    c.in_ok-len.ensures.measured

pub returns-clause-fits : goal.returns-clause-fits
returns-clause-fits g c = measured-fits c.args.limit c.kinds.result.now c.args.args.now c.in_ok-len.field-0
    (omega (arith, c.ranges.limit)) c.in_ok-len.ensures.measured

pub returns-clause-few : goal.returns-clause-few
returns-clause-few g c =
    let kinds = c.in_ok-entry.ensures.valid.small.arguments _ _ _ _ c.in_ok-entry.ensures.message in
    few c.kinds.result.now c.args.args.now (rw c.kinds.ensures kinds) c.in_ok-len.ensures.measured.right
