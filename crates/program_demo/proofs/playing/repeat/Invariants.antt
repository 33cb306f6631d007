use Rattle.std.proofs.Common.{[], ◌∷◌}
use Rattle.theory_connection.specs.Pair.{PairState}
use Rattle.wl_session.specs.Meaning.{move_of}
use Rattle.program_demo.specs.Session.{Until}
use Rattle.program_demo.specs.Playing.{Plays}
use Rattle.program_demo.proofs.LessIsLeft.{left_for}
use Rattle.program_demo.proofs.playing.repeat.Given as goal

-- what repetition still does completes it
abbrev pub invariant-again : goal.invariant-again
invariant-again g l = (last : PairState) → Plays (Until (move_of l.fn.action) ∷ []) l.pair last
    → Plays (Until (move_of l.fn.action) ∷ []) l.fn.pair last

abbrev pub decreases-again : goal.decreases-again
decreases-again g l = left_for (move_of l.fn.action) l.pair
