use Rattle.std.proofs.Common.{◌≤◌, take}
use Rattle.std.specs.List.{All}
use Rattle.wl_session.specs.Meaning.{arguments}
use Rattle.wl_session.proofs.running.most_arguments.Given as goal

abbrev pub invariant-moves : goal.invariant-moves
invariant-moves g l = All (λ action. arguments action ≤ l.most) (take l.action-index l.moves)
