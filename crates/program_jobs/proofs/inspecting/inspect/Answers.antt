use Rattle.std.proofs.Common.{arith}
use Rattle.program_jobs.proofs.PiecesInspected.{inspects_all, inspects_more}
use Rattle.program_jobs.proofs.inspecting.inspect.Goals as goal

pub pieces-preserved : goal.pieces-preserved
pieces-preserved c = inspects_more c.args.limit.bytes c.args.tables.now c.pieces-piece-items.result.now
    c.pieces.piece-index c.piece-item.result _ c.pieces-test.true c.piece-item.is
    (c.in_ok-pass.ensures c.args.limit.bytes c.args.tables.now _ c.pieces.invariant)

pub pieces-init : goal.pieces-init
pieces-init c = c.in_ok-inspection.ensures

pub returns-clause-answers : goal.returns-clause-answers
returns-clause-answers c =
    let all = inspects_all c.args.limit.bytes c.args.tables.now c.pieces-piece-items.result.now c.pieces.piece-index
    c.args.recording.now c.pieces.inspection (omega (arith, c.pieces-test.false)) c.pieces-piece-items.ensures.all
    c.pieces.invariant in
    c.verdict.ensures c.args.limit.bytes c.args.tables.now c.args.recording.now all.inspected.passed

pub returns-clause-noted : goal.returns-clause-noted
returns-clause-noted c =
    let all = inspects_all c.args.limit.bytes c.args.tables.now c.pieces-piece-items.result.now c.pieces.piece-index
    c.args.recording.now c.pieces.inspection (omega (arith, c.pieces-test.false)) c.pieces-piece-items.ensures.all
    c.pieces.invariant in
    record { follower = c.pieces.inspection.follower; followed = all.inspected.followed; whole = all.whole }
