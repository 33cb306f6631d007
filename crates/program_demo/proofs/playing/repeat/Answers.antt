use Rattle.std.proofs.Common.{◌≡◌, [], ◌∷◌, subst, ◌∙◌}
use Rattle.wl_session.specs.Meaning.{move_of, moves_of, reply_of, replies_of}
use Rattle.program_demo.specs.Playing as playing
use Rattle.program_demo.specs.Playing.{Ran}
use Rattle.program_demo.proofs.Runs.{any_mapped, plays_again, plays_last, less_after}
use Rattle.program_demo.proofs.playing.repeat.Goals as goal

pub again-init : goal.again-init
again-init g c = λ last more. more

-- this was the last repetition
pub returns-then-not-do_something : goal.returns-then-not-do_something
returns-then-not-do_something g c =
    let move : c.deref.result.now ≡ c.args.action ∷ [] = c.deref.ensures.value ∙ c.in_ok-moves.ensures in
    let ran : Ran c.again.pair (move_of c.args.action ∷ [])
    (replies_of c.in_ok-replies.replies.items) c.run_all.new.pair =
    subst (λ moves. Ran c.again.pair (moves_of moves) (replies_of c.in_ok-replies.replies.items) c.run_all.new.pair)
    move c.in_ok-replies.ensures in
    let replies = any_mapped reply_of playing.does_something c.in_ok-replies.replies.items in
    c.again.invariant c.run_all.new.pair (plays_last (move_of c.args.action)
    (replies_of c.in_ok-replies.replies.items) c.again.pair c.run_all.new.pair ran
    (cc (replies, c.do_something.ensures, c.deref-in-again.ensures.value, c.if-not-do_something.true)))

pub again-smaller : goal.again-smaller
again-smaller g c =
    let move : c.deref.result.now ≡ c.args.action ∷ [] = c.deref.ensures.value ∙ c.in_ok-moves.ensures in
    let ran : Ran c.again.pair (move_of c.args.action ∷ [])
    (replies_of c.in_ok-replies.replies.items) c.run_all.new.pair =
    subst (λ moves. Ran c.again.pair (moves_of moves) (replies_of c.in_ok-replies.replies.items) c.run_all.new.pair)
    move c.in_ok-replies.ensures in
    let replies = any_mapped reply_of playing.does_something c.in_ok-replies.replies.items in
    less_after (move_of c.args.action) (replies_of c.in_ok-replies.replies.items) c.again.pair c.run_all.new.pair ran
    (cc (replies, c.do_something.ensures, c.deref-in-again.ensures.value, c.if-not-do_something.false))

pub again-preserved : goal.again-preserved
again-preserved g c =
    let move : c.deref.result.now ≡ c.args.action ∷ [] = c.deref.ensures.value ∙ c.in_ok-moves.ensures in
    let ran : Ran c.again.pair (move_of c.args.action ∷ [])
    (replies_of c.in_ok-replies.replies.items) c.run_all.new.pair =
    subst (λ moves. Ran c.again.pair (moves_of moves) (replies_of c.in_ok-replies.replies.items) c.run_all.new.pair)
    move c.in_ok-replies.ensures in
    let replies = any_mapped reply_of playing.does_something c.in_ok-replies.replies.items in
    λ last more. c.again.invariant last (plays_again (move_of c.args.action)
    (replies_of c.in_ok-replies.replies.items) c.again.pair c.run_all.new.pair last ran
    (cc (replies, c.do_something.ensures, c.deref-in-again.ensures.value, c.if-not-do_something.false)) more)
