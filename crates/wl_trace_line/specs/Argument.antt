-- The arguments of a message, as the line of a trace and that of a report show them.
use Rattle.std.specs.Prelude.{ℕ, zero, suc, List, ◌++◌, length, codes, nat_eq}
use Rattle.std.specs.Prelude.{if◌then◌else◌, Option, Some, None}
use Rattle.std.specs.Fmt.{decimal, signed_decimal}
use Rattle.wl_wire.specs.declared.kind.Iface.{Iface}
use Rattle.wl_wire.specs.Argument.{Argument, Int, Uint, Fixed, Str, Obj, New, NewNamed, Array, Fd}
use Rattle.wl_wire.specs.Units.{fixed_text}
use Rattle.wl_sigs.specs.Tables.{Interface}
use Rattle.wl_trace_line.specs.Text.{object_text, new_text, known_name, string_text}

abbrev pub null_text : List ℕ
null_text = codes "nil"

-- an object argument; 0 is the null object
abbrev pub argument_object : List ℕ → ℕ → List ℕ
argument_object interface id = if nat_eq id 0 then null_text else object_text interface id

-- a string argument
abbrev pub argument_string : Option (List ℕ) → List ℕ
argument_string None = null_text
argument_string (Some text) = string_text text

-- One argument. An object, or a new one, has this interface, if it is known; a descriptor has this
-- number. A new object whose signature gives no interface shows its own and a version.
abbrev pub argument_text : List Interface → Option Iface → ℕ → Argument → List ℕ
argument_text tables iface number (Int z) = signed_decimal z
argument_text tables iface number (Uint n) = decimal n
argument_text tables iface number (Fixed z) = fixed_text z
argument_text tables iface number (Str text) = argument_string text
argument_text tables iface number (Obj id) = argument_object (known_name tables iface) id
argument_text tables iface number (New id) = new_text (known_name tables iface) id
argument_text tables iface number (NewNamed own version id) =
    string_text own ++ (codes ", " ++ decimal version ++ codes ", ") ++ new_text own id
argument_text tables iface number (Array bytes) =
    codes "array[" ++ decimal (length bytes) ++ codes "]"
argument_text tables iface number (Fd _) = codes "fd " ++ decimal number

-- what is printed for the argument at an index, from 0
abbrev pub placed_text : ℕ → List ℕ → List ℕ
placed_text zero text = text
placed_text (suc n) text = codes ", " ++ text
