-- What values given by C mean.
use Rattle.std.specs.Prelude.{ℕ, nat_eq, if◌then◌else◌, List, [], ◌∷◌, take}
use Rattle.std.specs.Prelude.{Option, Some, None}
use Rattle.wl_wire.specs.declared.kind.Iface.{Iface}
use Rattle.wl_wire.specs.Argument.{Int, Uint, Fixed, Str, Obj, New, Array, Fd}
use Rattle.wl_message.specs.declared.amounts.Amounts.{Amounts}
use Rattle.wl_object_map.specs.declared.object.Object.{Object}
use Rattle.wl_objects.specs.Writing.{Given}
use Rattle.waywire_c.specs.declared.values.CObject.{CObject}
use Rattle.waywire_c.specs.declared.values.CAmounts.{CAmounts}
use Rattle.waywire_c.specs.declared.values.CallArg.{CallArg}

abbrev pub object_from_c : CObject → Object
object_from_c c = record { id = c.id; birth = c.birth }

abbrev pub iface_at : ℕ → Iface
iface_at place = record { 0 = place }

-- how much was taken in, goes out or went out
abbrev pub amounts_of : CAmounts → Amounts
amounts_of c = record { bytes = c.bytes; tokens = c.tokens }

-- the object that is written if none is made
abbrev pub made_object : Option Object → Object
made_object None = record { id = 0; birth = 0 }
made_object (Some object) = object

-- ---- the arguments of a call

-- The meaning of an argument, by its kind; none for a kind that no call takes.
abbrev pub given_by : CallArg → Option Given
given_by arg =
    if nat_eq arg.kind 1 then Some (Int arg.int)
    else if nat_eq arg.kind 2 then Some (Uint arg.uint)
    else if nat_eq arg.kind 3 then Some (Fixed arg.int)
    else if nat_eq arg.kind 4 then Some (Str (Some arg.bytes.now))
    else if nat_eq arg.kind 5 then Some (Str None)
    else if nat_eq arg.kind 6 then Some (Obj (Some (object_from_c arg.object)))
    else if nat_eq arg.kind 7 then Some (Obj None)
    else if nat_eq arg.kind 8 then Some (New tt)
    else if nat_eq arg.kind 9 then Some (Array arg.bytes.now)
    else if nat_eq arg.kind 10 then Some (Fd arg.uint)
    else None

abbrev pub given_before : Option Given → Option (List Given) → Option (List Given)
given_before (Some given) (Some more) = Some (given ∷ more)
given_before _ _ = None

-- the meaning of all arguments; none if one of them has a kind that no call takes
abbrev pub all_given : List CallArg → Option (List Given)
all_given [] = Some []
all_given (arg ∷ args) = given_before (given_by arg) (all_given args)

-- The arguments of a call; one more is looked at than a message can have.
abbrev pub given_in : List CallArg → Option (List Given)
given_in args = all_given (take 21 args)
