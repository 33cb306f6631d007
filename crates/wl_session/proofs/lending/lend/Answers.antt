use Rattle.std.proofs.Common.{◌≡◌, subst}
use Rattle.std.proofs.lemmas.List.{take_all}
use Rattle.wl_objects.specs.Writing.{given}
use Rattle.theory_connection.specs.World.{Each}
use Rattle.theory_connection.specs.Runs.{FitsWords}
use Rattle.wl_session.specs.Meaning.{args_of}
use Rattle.wl_session.proofs.lending.lend.Goals as goal

pub returns-clause-same : goal.returns-clause-same
returns-clause-same g c =
    let whole = take_all c.loop-arg.arg-index c.args.args.now c.loop-arg-test.false in
    subst (λ args. given c.loop-arg.list.items ≡ args_of args) whole c.loop-arg.invariant.0

pub returns-clause-in_range : goal.returns-clause-in_range
returns-clause-in_range g c =
    let whole = take_all c.loop-arg.arg-index c.args.args.now c.loop-arg-test.false in
    subst (λ args. Each FitsWords (args_of args)) whole c.loop-arg.invariant.1
