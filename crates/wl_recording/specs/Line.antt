-- The lines of a recording.
use Rattle.std.specs.Prelude.{◌≡◌, ℕ, ◌<◌, ◌≤◌, ◌==◌, if◌then◌else◌, List, [], ◌∷◌, ◌++◌, length}
use Rattle.std.specs.Prelude.{codes, decimal, Ok}
use Rattle.std.specs.Str.Parse.{AllDigits, digits_value}
use Rattle.hex.specs.Hex.{decode_of, encode_lower}
use Rattle.wl_recording.specs.declared.piece.Direction.{Direction}
use Rattle.wl_recording.specs.declared.piece.Direction.TheVariants.{ToServer, ToClient}
use Rattle.wl_recording.specs.Piece.{Piece}

-- the sign of a direction, > or <
abbrev pub sign : Direction → ℕ
sign ToServer = 62
sign ToClient = 60

-- The digits represent the bytes: - for none, else two hexadecimal digits, of either case, for each
-- byte.
pub data SpellsBytes (digits bytes : List ℕ) : Type 0 where
  no_bytes : digits ≡ codes "-" → bytes ≡ [] → SpellsBytes digits bytes
  some_bytes : 0 < length digits → decode_of digits ≡ Ok bytes → SpellsBytes digits bytes

-- The rest of a line represents this number of tokens: nothing for none, else " +" and 1 to 5
-- decimal digits of a value from 1 to 65,535.
pub data SpellsTokens (count : List ℕ) (tokens : ℕ) : Type 0 where
  no_tokens : count ≡ [] → tokens ≡ 0 → SpellsTokens count tokens
  some_tokens : (digits : List ℕ) → count ≡ codes " +" ++ digits
      → 1 ≤ length digits → length digits ≤ 5
      → AllDigits 10 digits → digits_value 10 digits ≡ tokens
      → 1 ≤ tokens → tokens ≤ 65535 → SpellsTokens count tokens

-- The line is this piece: its direction's sign, a space, its bytes, its tokens.
pub record IsPiece (line : List ℕ) (piece : Piece) : Type 0 where
  pub digits : List ℕ
  pub count : List ℕ
  pub whole : line ≡ sign piece.direction ∷ 32 ∷ (digits ++ count)
  pub bytes : SpellsBytes digits piece.bytes
  pub tokens : SpellsTokens count piece.tokens

-- the digits that a writer produces: lower case
abbrev pub bytes_text : List ℕ → List ℕ
bytes_text [] = codes "-"
bytes_text (byte ∷ more) = encode_lower (byte ∷ more)

-- the count that a writer produces: decimal, without leading zeros
abbrev pub tokens_text : ℕ → List ℕ
tokens_text tokens = if tokens == 0 then [] else codes " +" ++ decimal tokens

-- the one line that a writer produces for a piece
abbrev pub line_of : Piece → List ℕ
line_of piece = sign piece.direction ∷ 32 ∷ (bytes_text piece.bytes ++ tokens_text piece.tokens)
