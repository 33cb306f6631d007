-- An argument of a report, translated to an argument of a call at the other connection.
use Rattle.std.specs.Prelude.{◌≡◌, ◌||◌, Bool, true, false, Option, Some, None}
use Rattle.wl_wire.specs.Argument.{reshaped, Obj, NewNamed}
use Rattle.wl_object_map.specs.declared.object.Object.{Object}
use Rattle.wl_objects.specs.declared.argument.Named.{Named}
use Rattle.wl_objects.specs.declared.argument.Named.TheVariants as named_as
use Rattle.wl_objects.specs.Reading.{Reported}
use Rattle.wl_objects.specs.declared.argument.Arg.{Arg}
use Rattle.wl_objects.specs.Writing.{Given, given_of}

-- the object, live or dead; none for null
abbrev pub object_of : Named → Option Object
object_of named_as.Null = None
object_of (named_as.Live object) = Some object
object_of (named_as.Dead object) = Some object

-- the object that an argument names
abbrev pub object_in : Reported → Option Object
object_in (Obj named) = object_of named
object_in _ = None

-- an object's twin, if there is an object
abbrev pub twin_in : (Object → Option Object) → Option Object → Option Object
twin_in twin None = None
twin_in twin (Some object) = twin object

-- The argument with the object that it names replaced by this object or by none. A new object
-- becomes one that the call makes.
abbrev pub forwarded : Option Object → Reported → Given
forwarded twin argument = reshaped (λ _. twin) (λ _. tt) (λ token. token) argument

-- whether it cannot be an argument of a call: its object has no twin, or it is the new object of a
-- bind
abbrev pub is_alone : Option Object → Option Object → Bool
is_alone (Some object) None = true
is_alone object twin = false

abbrev pub is_bound : Reported → Bool
is_bound (NewNamed iface version object) = true
is_bound _ = false

abbrev pub cannot_pass : Option Object → Reported → Bool
cannot_pass twin argument = is_alone (object_in argument) twin || is_bound argument

-- What an argument becomes, given each object's twin: an argument of a call, or none.
abbrev pub IsForwarded : (Object → Option Object) → Reported → Option Arg → Type 0
IsForwarded twin argument None = cannot_pass (twin_in twin (object_in argument)) argument ≡ true
IsForwarded twin argument (Some given) =
    (cannot_pass (twin_in twin (object_in argument)) argument ≡ false)
    × (given_of given ≡ forwarded (twin_in twin (object_in argument)) argument)
