use Rattle.std.proofs.Common.{◌+◌, ◌≤◌, drop, pos, arith}
use Rattle.wl_objects.specs.declared.argument.Arg.TheVariants.{Int}
use Rattle.wl_objects.specs.Writing.{on_wire, message_len}
use Rattle.wl_objects.proofs.Calls.{len-at, len-least}
use Rattle.wl_objects.proofs.calling.message_len.Goals as goal

pub arguments-preserved : goal.arguments-preserved
arguments-preserved c =
    let i = c.arguments.arg-index in
    let here = len-at 0 i c.args.args.now (Int (pos 0)) c.arguments-test.true in
    let least : 8 ≤ message_len (on_wire 0 (drop (i + 1) c.args.args.now)) = len-least _ in
    let most = c.len_of-len.ensures.most in
    let exact = c.len_of-len.ensures.exact (omega (arith, here, least, most, c.arguments.invariant.len, c.requires)) in
    record { len = omega (arith, here, exact, c.arguments.invariant.len) }
