use Rattle.std.proofs.Common.{◌≡◌, length, take, drop}
use Rattle.wl_objects.specs.Writing.{given}
use Rattle.waywire_c.specs.Values.{all_given}
use Rattle.waywire_c.proofs.GivenArguments.{ahead}
use Rattle.waywire_c.proofs.values.put_args.Given as goal

-- the arguments so far, followed by the rest, are all arguments
abbrev pub invariant-places : goal.invariant-places
invariant-places l =
    (length l.slots ≡ length l.fn.slots)
    × (ahead (given (take l.place l.slots)) (all_given (drop l.place (take (length l.fn.slots) l.args)))
    ≡ all_given (take (length l.fn.slots) l.args))
