-- The texts that make up a line.
use Rattle.std.specs.Prelude.{ℕ, ◌/◌, ◌%◌, Bool, false, ◌&&◌, not, nat_le, nat_eq, if◌then◌else◌}
use Rattle.std.specs.Prelude.{List, [], ◌∷◌, ◌++◌, codes, Option, Some, None, option_map, unwrap_or}
use Rattle.std.specs.List.{flat_map, join_by}
use Rattle.std.specs.Fmt.{decimal, digit_glyph}
use Rattle.wl_wire.specs.declared.kind.Iface.{Iface}
use Rattle.wl_sigs.specs.Side.{Side}
use Rattle.wl_sigs.specs.Side.TheVariants.{Request, Event}
use Rattle.wl_sigs.specs.Tables.{Interface, interface_at}

-- the direction of a message: a request to the server, an event to the client
abbrev pub arrow : Side → List ℕ
arrow Request = codes "-> "
arrow Event = codes "<- "

-- an object by its interface's name and its id
abbrev pub object_text : List ℕ → ℕ → List ℕ
object_text interface id = interface ++ codes "@" ++ decimal id

-- a new object among the arguments
abbrev pub new_text : List ℕ → ℕ → List ℕ
new_text interface id = codes "new id " ++ object_text interface id

-- the name of an interface of the tables; empty if it is not there
abbrev pub name_of : List Interface → Iface → List ℕ
name_of tables iface =
    unwrap_or (option_map (λ (i : Interface). i.name) (interface_at tables iface.0)) []

-- the name of an object's interface, if known; an object that wl_display.error names may be unknown
abbrev pub known_name : List Interface → Option Iface → List ℕ
known_name tables None = codes "unknown"
known_name tables (Some iface) = name_of tables iface

-- a message without its arguments: its direction, its target, its name
abbrev pub head_text : Side → List ℕ → ℕ → List ℕ → List ℕ
head_text side interface id message =
    arrow side ++ object_text interface id ++ codes "." ++ message

-- whether a byte of a string is printed unchanged: 0x20 to 0x7e, except the quote and the backslash
abbrev pub is_plain : ℕ → Bool
is_plain byte = nat_le 0x20 byte && nat_le byte 0x7e && not (nat_eq byte 34) && not (nat_eq byte 92)

-- a backslash, an x and two digits
abbrev pub escaped : ℕ → List ℕ
escaped byte = codes "\\x" ++ digit_glyph false (byte / 16) ∷ digit_glyph false (byte % 16) ∷ []

-- one byte of a string
abbrev pub byte_text : ℕ → List ℕ
byte_text byte = if is_plain byte then byte ∷ [] else escaped byte

-- a string, in quotes
abbrev pub string_text : List ℕ → List ℕ
string_text text = codes "\"" ++ flat_map byte_text text ++ codes "\""

-- texts with a comma and a space between each two
abbrev pub comma_separated : List (List ℕ) → List ℕ
comma_separated texts = join_by (λ text. text) (codes ", ") texts
