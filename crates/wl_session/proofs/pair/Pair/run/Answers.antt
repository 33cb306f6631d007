use Rattle.std.proofs.Common.{◌≤◌, subst, vec_capacity, arith}
use Rattle.std.proofs.lemmas.List.{take_all}
use Rattle.theory_connection.specs.World.{Each}
use Rattle.theory_connection.specs.Runs.{DoesAll, IsMove}
use Rattle.theory_connection.proofs.Steps.{run_keeps}
use Rattle.theory_recording.proofs.LinkedMove.{run_links}
use Rattle.wl_session.specs.Meaning.{move_of, moves_of, reply_of, replies_of, arguments}
use Rattle.wl_session.proofs.MoveLists.{at_index, done_more, each_next}
use Rattle.wl_session.proofs.pair.Pair.run.Goals as goal

pub step-reply-requires : goal.step-reply-requires
step-reply-requires g c =
    at_index (λ action. arguments action ≤ vec_capacity c.moves.args) c.args.moves.now c.moves.action-index
    c.action-item.result c.moves-test.true c.action-item.is c.moves.invariant.2

pub moves-preserved : goal.moves-preserved
moves-preserved g c = (
  done_more move_of reply_of c.args.self.now c.moves.self c.step-reply.new.self c.args.moves.now c.moves.action-index
      c.action-item.result c.moves.replies.items c.push_reserved.new.self.items c.step-reply.result
      c.moves-test.true c.action-item.is c.push_reserved.ensures.items c.moves.invariant.0 c.step-reply.ensures.does,
  each_next move_of c.args.moves.now c.moves.action-index c.action-item.result c.moves-test.true c.action-item.is
      c.moves.invariant.1 c.step-reply.ensures.in_range,
  (let e = c.step-reply.ensures.capacity in let i = c.moves.invariant.2 in λ k d h. let b = i k d h
      in omega (arith, e, b)),
  (let e = c.push_reserved.ensures.len in let i = c.moves.invariant.3 in omega (arith, e, i)),
  (let e = c.push_reserved.ensures.capacity in let i = c.moves.invariant.4 in omega (arith, e, i)),
)

pub returns-clause-does : goal.returns-clause-does
returns-clause-does g c =
    let whole = take_all c.moves.action-index c.args.moves.now c.moves-test.false in
    subst (λ moves. DoesAll c.args.self.now (moves_of moves) (replies_of c.moves.replies.items) c.moves.self) whole
    c.moves.invariant.0

pub returns-clause-runs : goal.returns-clause-runs
returns-clause-runs g c = λ world stands.
    let whole = take_all c.moves.action-index c.args.moves.now c.moves-test.false in
    let does = subst (λ moves. DoesAll c.args.self.now (moves_of moves) (replies_of c.moves.replies.items) c.moves.self)
    whole c.moves.invariant.0 in
    let ranges = subst (λ moves. Each IsMove (moves_of moves)) whole c.moves.invariant.1 in
    run_keeps c.args.self.now world (moves_of c.args.moves.now)
    (replies_of c.moves.replies.items) c.moves.self stands ranges does

pub returns-clause-links : goal.returns-clause-links
returns-clause-links g c = λ world linked.
    let whole = take_all c.moves.action-index c.args.moves.now c.moves-test.false in
    let does = subst (λ moves. DoesAll c.args.self.now (moves_of moves) (replies_of c.moves.replies.items) c.moves.self)
    whole c.moves.invariant.0 in
    let ranges = subst (λ moves. Each IsMove (moves_of moves)) whole c.moves.invariant.1 in
    run_links c.args.self.now world (moves_of c.args.moves.now)
    (replies_of c.moves.replies.items) c.moves.self linked ranges does
