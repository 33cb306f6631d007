use Rattle.std.proofs.Common.{◌≡◌, ◌≤◌, length, take, vec_capacity, vec_len}
use Rattle.std.specs.List.{All}
use Rattle.theory_connection.specs.World.{Each}
use Rattle.theory_connection.specs.Runs.{DoesAll, IsMove}
use Rattle.wl_session.specs.Meaning.{moves_of, replies_of, arguments}
use Rattle.wl_session.proofs.pair.Pair.run.Given as goal

abbrev pub invariant-moves : goal.invariant-moves
invariant-moves g l =
    DoesAll l.fn.self (moves_of (take l.action-index l.moves)) (replies_of l.replies.items) l.self
    × Each IsMove (moves_of (take l.action-index l.moves))
    × All (λ action. arguments action ≤ vec_capacity l.args) l.moves
    × (vec_len l.replies ≡ l.action-index)
    × (length l.moves ≤ vec_capacity l.replies)
