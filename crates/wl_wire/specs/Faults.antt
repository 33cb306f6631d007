-- Why bytes do not begin with a spelling of a kind; the faults in the order in which they are
-- tested.
use Rattle.std.specs.Prelude.{◌≡◌, ◌≢◌, ◌≤◌, ℕ, ◌+◌, ◌-◌, ◌<◌, ◌^◌, ◌⊎◌, false, None, List, length}
use Rattle.std.specs.Prelude.{take, drop, slice_index, Contains}
use Rattle.wl_wire.specs.declared.kind.Kind.{Kind}
use Rattle.wl_wire.specs.declared.kind.Kind.TheVariants as kinds
use Rattle.wl_wire.specs.declared.kind.ArgFault.{ArgFault}
use Rattle.wl_wire.specs.declared.kind.ArgFault.TheVariants.{Short, NullNotAllowed, NoEndingNul}
use Rattle.wl_wire.specs.declared.kind.ArgFault.TheVariants.{InnerNul}
use Rattle.wl_wire.specs.declared.kind.ReadError.{ReadError}
use Rattle.wl_wire.specs.declared.kind.ReadError.TheVariants as errors
use Rattle.wl_wire.specs.Word.{word}
use Rattle.wl_wire.specs.Spelling.{padded}

-- the first word is n
abbrev pub BeginsWithWord : ℕ → List ℕ → Type 0
BeginsWithWord n bytes = (n < 2 ^ 32) × (take 4 bytes ≡ word n)

-- The first word is n, and fewer bytes follow it than n, its padding and `more`.
abbrev pub Lacks : (more n : ℕ) → List ℕ → Type 0
Lacks more n bytes = BeginsWithWord n bytes × (length bytes < 4 + padded n + more)

-- the first word is n, and that many bytes follow it
abbrev pub HoldsCounted : (more n : ℕ) → List ℕ → Type 0
HoldsCounted more n bytes = BeginsWithWord n bytes × (4 + padded n + more ≤ length bytes)

-- the first word is incomplete, or it is a length and what it counts is incomplete
abbrev pub LacksCounted : ℕ → List ℕ → Type 0
LacksCounted more bytes = (length bytes < 4) ⊎ ((n : ℕ) × Lacks more n bytes)

-- a non-null string is complete, and the last byte that its length counts is not 0
abbrev pub LacksEndingNul : ℕ → List ℕ → Type 0
LacksEndingNul more bytes = (n : ℕ) × (0 < n) × HoldsCounted more n bytes
    × (slice_index bytes (n + 3) ≢ 0)

-- the last byte is 0, and an earlier byte is 0 too
abbrev pub HasInnerNul : ℕ → List ℕ → Type 0
HasInnerNul more bytes =
    (n : ℕ) × (0 < n) × HoldsCounted more n bytes × (slice_index bytes (n + 3) ≡ 0)
    × Contains (take (n - 1) (drop 4 bytes)) 0

-- A1: the argument is incomplete; for a new object without an interface, 8 bytes follow the name
-- (version and id)
abbrev pub IsShort : Kind → List ℕ → Type 0
IsShort (kinds.Str null) bytes = LacksCounted 0 bytes
IsShort kinds.Array bytes = LacksCounted 0 bytes
IsShort (kinds.New None) bytes = LacksCounted 8 bytes
IsShort kinds.Fd bytes = ⊥
IsShort _ bytes = length bytes < 4

-- A2: null, and the kind does not allow it
abbrev pub IsNull : Kind → List ℕ → Type 0
IsNull (kinds.Str null) bytes = (null ≡ false) × BeginsWithWord 0 bytes
IsNull (kinds.Obj null iface) bytes = (null ≡ false) × BeginsWithWord 0 bytes
IsNull (kinds.New None) bytes = HoldsCounted 8 0 bytes
IsNull _ bytes = ⊥

-- A3: a string does not end with NUL
abbrev pub LacksNul : Kind → List ℕ → Type 0
LacksNul (kinds.Str null) bytes = LacksEndingNul 0 bytes
LacksNul (kinds.New None) bytes = LacksEndingNul 8 bytes
LacksNul _ bytes = ⊥

-- A4: a string has an inner NUL
abbrev pub HasNul : Kind → List ℕ → Type 0
HasNul (kinds.Str null) bytes = HasInnerNul 0 bytes
HasNul (kinds.New None) bytes = HasInnerNul 8 bytes
HasNul _ bytes = ⊥

-- The first fault, in the order in which they are tested: each one requires that the earlier ones
-- are absent.
abbrev pub IsFirstFault : Kind → List ℕ → ArgFault → Type 0
IsFirstFault kind bytes Short = IsShort kind bytes
IsFirstFault kind bytes NullNotAllowed = IsNull kind bytes
IsFirstFault kind bytes NoEndingNul = LacksNul kind bytes
IsFirstFault kind bytes InnerNul = HasNul kind bytes

-- why there is no value: the first fault, or out of memory
abbrev pub IsReason : Kind → List ℕ → ReadError → Type 0
IsReason kind bytes (errors.Arg fault) = IsFirstFault kind bytes fault
IsReason kind bytes errors.Memory = Unit {0}
