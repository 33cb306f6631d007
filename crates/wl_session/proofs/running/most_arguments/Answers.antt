use Rattle.std.proofs.Common.{rules, ◌≤◌, subst}
use Rattle.std.proofs.lemmas.List.{take_all}
use Rattle.std.specs.List.{All}
use Rattle.wl_session.specs.Meaning.{arguments}
use Rattle.wl_session.proofs.MoveLists.{most_more}
use Rattle.wl_session.proofs.running.most_arguments.Goals as goal

pub moves-preserved : goal.moves-preserved
moves-preserved g c =
    most_more arguments c.args.moves.now c.moves.action-index c.moves.most c.max-most.result c.action-item.result
    c.moves-test.true c.action-item.is c.moves.invariant (search rules) (search rules)

pub returns : goal.returns
returns g c = subst (All (λ action. arguments action ≤ c.moves.most))
    (take_all c.moves.action-index c.args.moves.now c.moves-test.false) c.moves.invariant
