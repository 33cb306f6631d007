-- How the values of arguments are encoded on the wire.
use Rattle.std.specs.Prelude.{◌≡◌, ◌≢◌, ℕ, ℤ, ◌+◌, ◌*◌, ◌/◌, ◌-◌, ◌<◌, ◌^◌, Bool, true, List, []}
use Rattle.std.specs.Prelude.{◌∷◌, ◌++◌, length, replicate, Option, Some, None, FitsSigned}
use Rattle.std.specs.Prelude.{◌==◌}
use Rattle.std.specs.List.{All, list_any}
use Rattle.std.specs.Int.{w32}
use Rattle.wl_wire.specs.declared.kind.Kind.{Kind}
use Rattle.wl_wire.specs.declared.kind.Kind.TheVariants as kinds
use Rattle.wl_wire.specs.declared.kind.Iface.{Iface}
use Rattle.wl_wire.specs.Word.{word, int_word}
use Rattle.wl_wire.specs.Argument.{Argument, Int, Uint, Fixed, Str, Obj, New, NewNamed, Array, Fd}

-- n, rounded up to a multiple of 4
abbrev pub padded : ℕ → ℕ
padded n = (n + 3) / 4 * 4

-- these bytes, then up to three bytes of any value, to a multiple of 4
pub record Padded (bytes spelled : List ℕ) : Type 0 where
  pub padding : List ℕ
  pub whole : spelled ≡ bytes ++ padding
  pub len : length spelled ≡ padded (length bytes)

-- whether a byte of the text is 0
abbrev pub has_nul : List ℕ → Bool
has_nul text = list_any (λ b. b == 0) text

-- a string that the wire can carry: no byte is 0, and its length with the ending NUL fits in a word
pub record IsText (text : List ℕ) : Type 0 where
  pub no_nul : All (λ b. b ≢ 0) text
  pub len : length text + 1 < 2 ^ 32

-- The bytes spell a non-null string: its length with the ending NUL, the string, the NUL, padding.
pub record SpellsText (text bytes : List ℕ) : Type 0 where
  pub text_fits : IsText text
  pub rest : List ℕ
  pub padded_rest : Padded (text ++ 0 ∷ []) rest
  pub whole : bytes ≡ word (length text + 1) ++ rest

-- The bytes spell the value, for an argument of the kind.
pub data Spells : Kind → Argument → List ℕ → Type 0 where
  is_int : {z : ℤ} {bytes : List ℕ} → FitsSigned w32 z → bytes ≡ int_word z
      → Spells kinds.Int (Int z) bytes
  is_uint : {n : ℕ} {bytes : List ℕ} → n < 2 ^ 32 → bytes ≡ word n
      → Spells kinds.Uint (Uint n) bytes
  is_fixed : {z : ℤ} {bytes : List ℕ} → FitsSigned w32 z → bytes ≡ int_word z
      → Spells kinds.Fixed (Fixed z) bytes
  -- the null string has the length 0
  is_null : {null : Bool} {bytes : List ℕ} → null ≡ true → bytes ≡ word 0
      → Spells (kinds.Str null) (Str None) bytes
  is_text : {null : Bool} {text bytes : List ℕ} → SpellsText text bytes
      → Spells (kinds.Str null) (Str (Some text)) bytes
  -- the null object has the id 0
  is_object : {null : Bool} {iface : Option Iface} {id : ℕ} {bytes : List ℕ} → id < 2 ^ 32
      → (id ≡ 0 → null ≡ true) → bytes ≡ word id → Spells (kinds.Obj null iface) (Obj id) bytes
  is_new : {iface : Iface} {id : ℕ} {bytes : List ℕ} → id < 2 ^ 32 → bytes ≡ word id
      → Spells (kinds.New (Some iface)) (New id) bytes
  is_new_by_server : {iface : Iface} {id : ℕ} {bytes : List ℕ} → id < 2 ^ 32 → bytes ≡ word id
      → Spells (kinds.NewByServer iface) (New id) bytes
  -- a new object without an interface: its name, the version, the id
  is_named : {iface front bytes : List ℕ} {version id : ℕ} → SpellsText iface front
      → version < 2 ^ 32 → id < 2 ^ 32 → bytes ≡ front ++ word version ++ word id
      → Spells (kinds.New None) (NewNamed iface version id) bytes
  is_array : {array rest bytes : List ℕ} → length array < 2 ^ 32 → Padded array rest
      → bytes ≡ word (length array) ++ rest → Spells kinds.Array (Array array) bytes
  -- a descriptor takes no bytes
  is_descriptor : {bytes : List ℕ} → bytes ≡ [] → Spells kinds.Fd (Fd tt) bytes

abbrev pub zeros : ℕ → List ℕ
zeros n = replicate n 0

-- a string with its length, the NUL and padding of zeros
abbrev pub text_bytes : List ℕ → List ℕ
text_bytes text = word (length text + 1) ++ text ++ zeros (padded (length text + 1) - length text)

-- The one spelling that a writer produces: its padding is zeros.
abbrev pub canonical : Argument → List ℕ
canonical (Int z) = int_word z
canonical (Uint n) = word n
canonical (Fixed z) = int_word z
canonical (Str None) = word 0
canonical (Str (Some text)) = text_bytes text
canonical (Obj id) = word id
canonical (New id) = word id
canonical (NewNamed iface version id) = text_bytes iface ++ word version ++ word id
canonical (Array bytes) =
    word (length bytes) ++ bytes ++ zeros (padded (length bytes) - length bytes)
canonical (Fd _) = []

-- the value has a spelling if its strings and arrays allow it
abbrev pub Fits : Argument → Type 0
Fits (Str (Some text)) = IsText text
Fits (NewNamed iface version id) = IsText iface
Fits (Array bytes) = length bytes < 2 ^ 32
Fits _ = Unit {0}

-- how many bytes a spelling of the value takes
abbrev pub spelled_len : Argument → ℕ
spelled_len (Str (Some text)) = 4 + padded (length text + 1)
spelled_len (NewNamed iface version id) = 12 + padded (length iface + 1)
spelled_len (Array bytes) = 4 + padded (length bytes)
spelled_len (Fd _) = 0
spelled_len _ = 4

-- The value belongs to the kind and its numbers are in range, so some bytes spell it.
abbrev pub Suits : Kind → Argument → Type 0
Suits kinds.Int (Int z) = FitsSigned w32 z
Suits kinds.Uint (Uint n) = n < 2 ^ 32
Suits kinds.Fixed (Fixed z) = FitsSigned w32 z
Suits (kinds.Str null) (Str None) = null ≡ true
Suits (kinds.Str null) (Str (Some text)) = IsText text
Suits (kinds.Obj null iface) (Obj id) = (id < 2 ^ 32) × (id ≡ 0 → null ≡ true)
Suits (kinds.New (Some iface)) (New id) = id < 2 ^ 32
Suits (kinds.NewByServer iface) (New id) = id < 2 ^ 32
Suits (kinds.New None) (NewNamed iface version id) =
    IsText iface × (version < 2 ^ 32) × (id < 2 ^ 32)
Suits kinds.Array (Array bytes) = length bytes < 2 ^ 32
Suits kinds.Fd (Fd _) = Unit {0}
Suits _ _ = ⊥
