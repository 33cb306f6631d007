use Rattle.std.proofs.Common.{sym, ◌∙◌, arith}
use Rattle.wl_check.proofs.MessagesOfStream.{told, front_short, front_bad, front_long, front_there}
use Rattle.wl_check.proofs.frames.size_in_front.Goals.{else-bytes-size-via-then-bytes-size+else-allows}
use Rattle.wl_check.proofs.frames.size_in_front.Goals.{else-bytes-size-via-else-bytes-size}
use Rattle.wl_check.proofs.frames.size_in_front.Goals as goal

pub returns-then-bytes-lt8-clause-front : goal.returns-then-bytes-lt8-clause-front
returns-then-bytes-lt8-clause-front c = front_short c.args.limit.bytes c.args.bytes.now (omega arith)

pub returns-then-allows-clause-front : goal.returns-then-allows-clause-front
returns-then-allows-clause-front c = front_long c.args.limit.bytes c.args.bytes.now _
    (told c.args.bytes.now c.at_front_of-size.result c.type_inv.bytes (omega arith) c.at_front_of-size.ensures.computes)
    (omega arith) (cc) (omega arith)

pub returns-clause-front : goal.returns-clause-front
returns-clause-front c =
    let size = told c.args.bytes.now c.at_front_of-size.result c.type_inv.bytes (omega arith)
    c.at_front_of-size.ensures.computes in
    elim c.else-bytes-size.branch [
      | else-bytes-size-via-then-bytes-size+else-allows w ↦
          front_bad c.args.limit.bytes c.args.bytes.now _ size (omega arith) (sym w.allows.ensures ∙ w.if-allows.false)
      | else-bytes-size-via-else-bytes-size w ↦
          front_there c.args.limit.bytes c.args.bytes.now _ size (omega arith) (let r = w.if-bytes-size in omega arith)
    ]
