use Rattle.std.proofs.Common.{◌≡◌, ◌≤◌, length, take, vec_capacity, vec_len}
use Rattle.wl_objects.specs.Writing.{given}
use Rattle.theory_connection.specs.World.{Each}
use Rattle.theory_connection.specs.Runs.{FitsWords}
use Rattle.wl_session.specs.Meaning.{args_of}
use Rattle.wl_session.proofs.lending.lend.Given as goal

abbrev pub invariant-loop-arg : goal.invariant-loop-arg
invariant-loop-arg g l =
    (given l.list.items ≡ args_of (take l.arg-index l.args)) × Each FitsWords (args_of (take l.arg-index l.args))
    × (vec_len l.list ≡ l.arg-index)
    × (vec_capacity l.list ≡ vec_capacity l.fn.list) × (length l.args ≤ vec_capacity l.fn.list)
