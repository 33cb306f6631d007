-- Reading one argument of a kind from the front of bytes: a reader's result as a function of the
-- bytes.
use Rattle.std.specs.Prelude.{◌≡◌, ℕ, ◌+◌, ◌-◌, ◌==◌, ◌&&◌, nat_lt, if◌then◌else◌, List, take, drop}
use Rattle.std.specs.Prelude.{length, slice_index, Some, None, Result, Ok, Err}
use Rattle.wl_wire.specs.declared.kind.Kind.{Kind}
use Rattle.wl_wire.specs.declared.kind.Kind.TheVariants as kinds
use Rattle.wl_wire.specs.declared.kind.ArgFault.{ArgFault}
use Rattle.wl_wire.specs.declared.kind.ArgFault.TheVariants.{Short, NullNotAllowed, NoEndingNul}
use Rattle.wl_wire.specs.declared.kind.ArgFault.TheVariants.{InnerNul}
use Rattle.wl_wire.specs.declared.kind.ReadError.{ReadError}
use Rattle.wl_wire.specs.declared.kind.ReadError.TheVariants as errors
use Rattle.wl_wire.specs.declared.value.Value.{Value}
use Rattle.wl_wire.specs.declared.value.ValueRef.{ValueRef}
use Rattle.wl_wire.specs.Argument.{Argument, Int, Uint, Fixed, Str, Obj, New, NewNamed, Array, Fd}
use Rattle.wl_wire.specs.Argument.{plain, lent}
use Rattle.wl_wire.specs.Spelling.{padded, has_nul}
pub use Rattle.wl_wire.specs.Word.{number_at, signed}

-- How many bytes an argument takes: its words, and the padded bytes that a length counts.
abbrev pub asked : Kind → List ℕ → ℕ
asked kinds.Int bytes = 4
asked kinds.Uint bytes = 4
asked kinds.Fixed bytes = 4
asked (kinds.Str null) bytes = 4 + padded (number_at bytes)
asked (kinds.Obj null iface) bytes = 4
asked (kinds.New (Some iface)) bytes = 4
asked (kinds.New None) bytes = 12 + padded (number_at bytes)
asked (kinds.NewByServer iface) bytes = 4
asked kinds.Array bytes = 4 + padded (number_at bytes)
asked kinds.Fd bytes = 0

-- the n bytes after the first word
abbrev pub counted_bytes : ℕ → List ℕ → List ℕ
counted_bytes n bytes = take n (drop 4 bytes)

-- the string after a length word n, which counts the ending NUL
abbrev pub text_of : ℕ → List ℕ → Result (List ℕ) ArgFault
text_of n bytes =
    if n == 0 then Err NullNotAllowed
    else if slice_index bytes (n + 3) == 0
    then (if has_nul (counted_bytes (n - 1) bytes)
    then Err InnerNul else Ok (counted_bytes (n - 1) bytes))
    else Err NoEndingNul

-- the same fault, or f of what was found
abbrev pub map_found : {X Y : Type 0} → (X → Y) → Result X ArgFault → Result Y ArgFault
map_found f (Ok x) = Ok (f x)
map_found f (Err fault) = Err fault

-- The argument at the front of the bytes, if they are long enough for it.
abbrev pub argument_of : Kind → List ℕ → Result Argument ArgFault
argument_of kinds.Int bytes = Ok (Int (signed (number_at bytes)))
argument_of kinds.Uint bytes = Ok (Uint (number_at bytes))
argument_of kinds.Fixed bytes = Ok (Fixed (signed (number_at bytes)))
argument_of (kinds.Str null) bytes =
    if (number_at bytes == 0) && null then Ok (Str None)
    else map_found (λ text. Str (Some text)) (text_of (number_at bytes) bytes)
argument_of (kinds.Obj null iface) bytes =
    if number_at bytes == 0 then (if null then Ok (Obj 0) else Err NullNotAllowed)
    else Ok (Obj (number_at bytes))
argument_of (kinds.New (Some iface)) bytes = Ok (New (number_at bytes))
argument_of (kinds.New None) bytes =
    let after = drop (4 + padded (number_at bytes)) bytes in
    map_found (λ name. NewNamed name (number_at after) (number_at (drop 4 after)))
    (text_of (number_at bytes) bytes)
argument_of (kinds.NewByServer iface) bytes = Ok (New (number_at bytes))
argument_of kinds.Array bytes = Ok (Array (counted_bytes (number_at bytes) bytes))
argument_of kinds.Fd bytes = Ok (Fd tt)

-- The argument of the kind at the front of the bytes and how many bytes it takes, or the first
-- fault.
abbrev pub reading : Kind → List ℕ → Result (Argument × ℕ) ArgFault
reading kind bytes =
    if nat_lt (length bytes) (asked kind bytes) then Err Short
    else map_found (λ value. (value, asked kind bytes)) (argument_of kind bytes)

-- an owned value of this argument allocates bytes
abbrev pub HoldsBytes : Argument → Type 0
HoldsBytes (Str (Some text)) = Unit {0}
HoldsBytes (NewNamed iface version id) = Unit {0}
HoldsBytes (Array bytes) = Unit {0}
HoldsBytes _ = ⊥

-- a reader's result, apart from memory
abbrev pub seen : Result (ValueRef × ℕ) ArgFault → Result (Argument × ℕ) ArgFault
seen (Ok found) = Ok (lent found.0, found.1)
seen (Err fault) = Err fault

-- A reader that makes an owned value gives this result: the same as `reading`, or out of memory,
-- which happens only for a value with bytes.
abbrev pub IsValueRead : {A : Type 0} → Kind → List ℕ → Result (Value A × ℕ) ReadError → Type 0
IsValueRead kind bytes (Ok found) = reading kind bytes ≡ Ok (plain found.0, found.1)
IsValueRead kind bytes (Err (errors.Arg fault)) = reading kind bytes ≡ Err fault
IsValueRead kind bytes (Err errors.Memory) =
    (value : Argument) × (len : ℕ) × (reading kind bytes ≡ Ok (value, len)) × HoldsBytes value
