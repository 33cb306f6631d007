-- The arguments of a call, one after another.
use mathlib.Core.Path.{ap}
use Rattle.std.proofs.Common.{◌≡◌, ◌≤◌, ◌∙◌, arith, sym, List, ◌++◌, Some, None, length, take}
use Rattle.std.proofs.lemmas.List.{take_all}
use Rattle.std.specs.Prelude.{Option, IfSome}
use Rattle.wl_objects.specs.Writing.{Given}
use Rattle.waywire_c.specs.declared.values.CallArg.{CallArg}
use Rattle.waywire_c.specs.Values.{all_given, given_in}

-- the arguments so far, followed by the rest
abbrev pub ahead : List Given → Option (List Given) → Option (List Given)
ahead front None = None
ahead front (Some more) = Some (front ++ more)

-- if there are few arguments, all of them are looked at
pub few_given : (args : List CallArg) → length args ≤ 6 → all_given (take 6 args) ≡ given_in args
few_given args few = ap all_given (take_all 6 args few ∙ sym (take_all 21 args (omega (arith, few))))

-- so what holds for the first 6 holds for all that are looked at
pub when_few : (args : List CallArg) (holds : List Given → Type 0) → length args ≤ 6
    → IfSome (all_given (take 6 args)) holds → IfSome (given_in args) holds
when_few args holds few so = rw (few_given args few) at so
