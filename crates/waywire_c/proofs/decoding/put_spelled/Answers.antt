use Rattle.std.proofs.Common.{◌∙◌, ap}
use Rattle.wl_wire.specs.Argument.{lent}
use Rattle.waywire_c.specs.Reports.{arg_told}
use Rattle.waywire_c.proofs.SpelledArguments.{so-none, so-more, so-broken, so-whole, so-longer, rest-is}
use Rattle.waywire_c.proofs.decoding.put_spelled.Goals as goal

pub kinds-init : goal.kinds-init
kinds-init c = so-none c.args.kinds.now c.args.body.now c.args.slots.now

pub returns-in-Err : goal.returns-in-Err
returns-in-Err c =
    so-broken c.args.kinds.now c.args.body.now c.kinds.place c.kinds.end c.args.slots.now c.kinds.slots _ c.in-Err.fault _
    c.kinds.invariant c.kinds-test.true c.requires.room (rest-is c.args.body.now c.kinds.end) c.in-Err.ensures.fault

pub kinds-preserved : goal.kinds-preserved
kinds-preserved c =
    so-more c.args.kinds.now c.args.body.now c.kinds.place c.kinds.end c.in-Ok.len c.args.slots.now c.kinds.slots _
    (lent c.in-Ok.value) _ _ c.kinds.invariant c.kinds-test.true c.requires.room
    (rest-is c.args.body.now c.kinds.end) c.in-Ok.ensures.found.0 c.in-Ok.ensures.found.1
    (c.show.ensures ∙ ap arg_told c.bare_argument.ensures)

pub returns-then-end-body : goal.returns-then-end-body
returns-then-end-body c =
    so-longer c.args.kinds.now c.args.body.now c.kinds.place c.kinds.end c.args.slots.now c.kinds.slots
    c.kinds.invariant c.kinds-test.false c.requires.room c.if-end-body.true

pub returns-else-end-body : goal.returns-else-end-body
returns-else-end-body c =
    so-whole c.args.kinds.now c.args.body.now c.kinds.place c.kinds.end c.args.slots.now c.kinds.slots
    c.kinds.invariant c.kinds-test.false c.requires.room c.if-end-body.false
