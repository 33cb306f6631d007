-- What is written is read back.
use Rattle.std.proofs.Common.{◌≡◌, ◌≢◌, ℕ, zero, suc, ◌+◌, ◌-◌, ◌^◌, ◌<◌, ◌≤◌, ◌==◌, true, false}
use Rattle.std.proofs.Common.{List, [], ◌∷◌, ◌++◌, length, get_or, take, refl, sym, append_assoc}
use Rattle.std.proofs.Common.{arith}
use Rattle.std.specs.Prelude.{codes, decimal, map}
use Rattle.std.specs.List.{All}
use Rattle.std.specs.Str.Lines.{strip_carriage_return}
use Rattle.std.proofs.lemmas.Bool.{ne_eqb}
use Rattle.std.proofs.lemmas.Bool.Decides.{nat_tests}
use Rattle.std.proofs.lemmas.Fmt.{decimal_is_IsNumeral, length-decimal-le}
use Rattle.std.proofs.lemmas.List.{map_more}
use Rattle.std.proofs.lemmas.List.Elements.{All-cons, All-nil, All-head, All-tail, All-append}
use Rattle.std.proofs.lemmas.List.Elements.{All-weaker, All-get_or, All-from_get_or}
use Rattle.std.proofs.lemmas.Str.Parse.{digit_at}
use Rattle.hex.specs.Hex.{IsBytes, encode_lower, is_hex_digit, lower_digits}
use Rattle.hex.proofs.HexLemmas.{decode_of-ok, decode_of-encode_lower, length-encode_with}
use Rattle.wl_recording.specs.declared.piece.Direction.{Direction}
use Rattle.wl_recording.specs.declared.piece.Direction.TheVariants.{ToServer, ToClient}
use Rattle.wl_recording.specs.Piece.{Piece, IsTellable}
use Rattle.wl_recording.specs.Line.{sign, IsPiece, SpellsBytes, no_bytes, some_bytes, SpellsTokens}
use Rattle.wl_recording.specs.Line.{no_tokens, some_tokens, bytes_text, tokens_text, line_of}
use Rattle.wl_recording.specs.Text.{ends, tells, TextRecords, recording_text}
use Rattle.wl_text.proofs.Cuts.{lines_ended}

-- a byte other than the control characters, such as line feed and carriage return
abbrev pub IsInk : ℕ → Type 0
IsInk byte = 32 ≤ byte

sign_ink : (d : Direction) → IsInk (sign d)
sign_ink ToServer = omega arith
sign_ink ToClient = omega arith

bytes_spelled : (bytes : List ℕ) → IsBytes bytes → SpellsBytes (bytes_text bytes) bytes
bytes_spelled [] small = no_bytes refl refl
bytes_spelled (byte ∷ more) small =
    some_bytes (omega (arith, length-encode_with lower_digits (byte ∷ more)))
    (decode_of-encode_lower (byte ∷ more) small)

hex_ink : (c : ℕ) → is_hex_digit c ≡ true → IsInk c
hex_ink c digit = grind (arith, nat_tests)

bytes_ink : (bytes : List ℕ) → IsBytes bytes → All IsInk (bytes_text bytes)
bytes_ink [] small = All-cons IsInk 45 [] (omega arith) (All-nil IsInk)
bytes_ink (byte ∷ more) small =
    All-weaker (λ c. is_hex_digit c ≡ true) IsInk hex_ink (encode_lower (byte ∷ more))
    (decode_of-ok (encode_lower (byte ∷ more)) (byte ∷ more) (decode_of-encode_lower (byte ∷ more) small)).1

-- the text of a number of tokens: none, or some
tokens_cases : (P : List ℕ → Type 0) (tokens : ℕ) → (tokens ≡ 0 → P [])
    → (1 ≤ tokens → P (codes " +" ++ decimal tokens)) → P (tokens_text tokens)
tokens_cases P zero none some = none refl
tokens_cases P (suc n) none some = rw (ne_eqb (suc n) 0 (λ e. omega arith)) (some (omega arith))

tokens_spelled : (tokens : ℕ) → tokens ≤ 65535 → SpellsTokens (tokens_text tokens) tokens
tokens_spelled tokens most =
    let fits : tokens < 2 ^ 64 = omega arith in
    let numeral = decimal_is_IsNumeral tokens fits in
    tokens_cases (λ count. SpellsTokens count tokens) tokens (λ none. no_tokens refl none)
    (λ some. some_tokens (decimal tokens) refl (omega (arith, numeral.0.0))
    (length-decimal-le 5 tokens (omega arith) (omega arith) fits) numeral.0.1 numeral.1 some most)

tokens_ink : (tokens : ℕ) → tokens ≤ 65535 → All IsInk (tokens_text tokens)
tokens_ink tokens most =
    let fits : tokens < 2 ^ 64 = omega arith in
    let digits = (decimal_is_IsNumeral tokens fits).0.1 in
    tokens_cases (All IsInk) tokens (λ none. All-nil IsInk)
    (λ some. All-cons IsInk 32 (43 ∷ decimal tokens) (omega arith) (All-cons IsInk 43 (decimal tokens) (omega arith)
    (All-from_get_or IsInk (decimal tokens) 0 (λ i lt. let range = digit_at (decimal tokens) i digits lt
    in omega (arith, range)))))

line_told : (piece : Piece) → IsTellable piece → IsPiece (line_of piece) piece
line_told piece fits = record {
  digits = bytes_text piece.bytes;
  count = tokens_text piece.tokens;
  whole = refl;
  bytes = bytes_spelled piece.bytes fits.bytes;
  tokens = tokens_spelled piece.tokens fits.tokens;
}

line_ink : (piece : Piece) → IsTellable piece → All IsInk (line_of piece)
line_ink piece fits =
    All-cons IsInk (sign piece.direction) (32 ∷ (bytes_text piece.bytes ++ tokens_text piece.tokens))
    (sign_ink piece.direction)
    (All-cons IsInk 32 (bytes_text piece.bytes ++ tokens_text piece.tokens) (omega arith)
    (All-append IsInk (bytes_text piece.bytes) (tokens_text piece.tokens) (bytes_ink piece.bytes fits.bytes)
    (tokens_ink piece.tokens fits.tokens)))

-- a line of such bytes loses no carriage return
strip_ink : (line : List ℕ) → 0 < length line → All IsInk line → strip_carriage_return line ≡ line
strip_ink line some ink =
    let last = All-get_or IsInk line (length line - 1) 0 (omega arith) ink in
    let other : (get_or line (length line - 1) 0 == 13) ≡ false = ne_eqb _ _ (omega (arith, last)) in
    rw other refl

-- the text of pieces records them
pub text_told : (pieces : List Piece) → All IsTellable pieces → TextRecords (recording_text pieces) pieces
text_told [] fit = ends
text_told (piece ∷ pieces) fit =
    let this = All-head IsTellable piece pieces fit in
    let ink = line_ink piece this in
    let clean : All (λ b. b ≢ 10) (line_of piece) =
    All-weaker IsInk (λ b. b ≢ 10) (λ b dark. omega arith) (line_of piece) ink in
    let first = lines_ended (line_of piece) (recording_text pieces) clean in
    let whole : strip_carriage_return (line_of piece) ≡ line_of piece = strip_ink (line_of piece) (omega arith) ink in
    rw (first, whole) (tells (line_told piece this) (text_told pieces (All-tail IsTellable piece pieces fit)))

-- the text of one more piece
pub text_of_push : (pieces : List Piece) (piece : Piece)
    → recording_text (pieces ++ piece ∷ []) ≡ recording_text pieces ++ (line_of piece ++ 10 ∷ [])
text_of_push [] piece = refl
text_of_push (first ∷ pieces) piece =
    let more = text_of_push pieces piece in
    rw more (sym (append_assoc (line_of first) (10 ∷ recording_text pieces) (line_of piece ++ 10 ∷ [])))

-- the same inside a loop over kept pieces
pub text_more : {A : Type 0} (seen : A → Piece) (all : List A) (i : ℕ) (x : A) → i < length all → x ≡ get_or all i x
    → recording_text (map seen (take (i + 1) all)) ≡ recording_text (map seen (take i all))
    ++ (line_of (seen x) ++ 10 ∷ [])
text_more seen all i x lt is =
    rw (map_more seen all i x lt, ← is) (text_of_push (map seen (take i all)) (seen x))

-- a piece whose bytes are known as a list
pub tellable_with : (direction : Direction) (bytes same : List ℕ) (tokens : ℕ) → bytes ≡ same → IsBytes same
    → tokens ≤ 65535
    → IsTellable (record { direction = direction; bytes = bytes; tokens = tokens })
tellable_with direction bytes same tokens is small few = record { bytes = rw is small; tokens = few }
