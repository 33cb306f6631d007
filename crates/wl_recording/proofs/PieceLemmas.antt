-- A line is at most one piece.
use Rattle.std.proofs.Common.{◌≡◌, ◌≢◌, ℕ, ◌<◌, true, List, [], ◌∷◌, ◌++◌, length, slice_index}
use Rattle.std.proofs.Common.{refl, sym, ap, subst, ◌∙◌, arith}
use Rattle.std.specs.Prelude.{codes, Result, Ok, Err, OnErr, Option, Some, None, MatchOption}
use Rattle.std.specs.List.{All}
use Rattle.std.proofs.lemmas.List.Elements.{All-head, All-tail, All-cons, All-nil, All-weaker}
use Rattle.hex.specs.Hex.{decode_of, is_hex_digit}
use Rattle.hex.proofs.HexLemmas.{decode_of-ok, decode_of-same}
use Rattle.wl_text.specs.Number.{number_of}
use Rattle.wl_text.proofs.Numbers.{number_some}
use Rattle.wl_recording.specs.declared.piece.Direction.{Direction}
use Rattle.wl_recording.specs.declared.piece.Direction.TheVariants.{ToServer, ToClient}
use Rattle.wl_recording.specs.Piece.{Piece}
use Rattle.wl_text.specs.Lines.{IsSkipped, is_empty, is_comment}
use Rattle.wl_recording.specs.Line.{sign, SpellsBytes, no_bytes, some_bytes, SpellsTokens}
use Rattle.wl_recording.specs.Line.{no_tokens, some_tokens, IsPiece}

-- no byte is a space
abbrev pub NoSpace : List ℕ → Type 0
NoSpace text = All (λ byte. byte ≢ 32) text

-- the text is empty or begins with a space
abbrev pub AtSpace : List ℕ → Type 0
AtSpace text = 0 < length text → slice_index text 0 ≡ 32

-- a text has one split before its first space
pub cut_once : (a b a' b' : List ℕ) → NoSpace a → AtSpace b → NoSpace a' → AtSpace b' → a ++ b ≡ a' ++ b'
    → (a ≡ a') × (b ≡ b')
cut_once [] b [] b' clean at clean' at' same = (refl, same)
cut_once [] b (y ∷ a') b' clean at clean' at' same =
    let is_space : slice_index b 0 ≡ 32 = at (rw same (omega arith)) in
    let is_y : slice_index b 0 ≡ y = rw same refl in
    absurd (All-head (λ byte. byte ≢ 32) y a' clean' (sym is_y ∙ is_space))
cut_once (x ∷ a) b [] b' clean at clean' at' same =
    let is_space : slice_index b' 0 ≡ 32 = at' (rw (← same) (omega arith)) in
    let is_x : slice_index b' 0 ≡ x = rw (← same) refl in
    absurd (All-head (λ byte. byte ≢ 32) x a clean (sym is_x ∙ is_space))
cut_once (x ∷ a) b (y ∷ a') b' clean at clean' at' same =
    let heads : x ≡ y = cc in
    let tails : a ++ b ≡ a' ++ b' = cc in
    let r = cut_once a b a' b' (All-tail (λ byte. byte ≢ 32) x a clean) at
    (All-tail (λ byte. byte ≢ 32) y a' clean') at' tails in
    (rw (heads, r.0) refl, r.1)

-- the digits of bytes contain no space
pub bytes_no_space : (digits bytes : List ℕ) → SpellsBytes digits bytes → NoSpace digits
bytes_no_space digits bytes spelled = elim spelled [
  | no_bytes is none ↦ rw is (All-cons (λ byte. byte ≢ 32) 45 [] (λ e. cc e) (All-nil (λ byte. byte ≢ 32)))
  | some_bytes some is ↦
      All-weaker (λ byte. is_hex_digit byte ≡ true) (λ byte. byte ≢ 32)
      (λ byte digit space. let P : ℕ → Type 0 = λ b. is_hex_digit b ≡ true
      in let no : is_hex_digit 32 ≡ true = subst P space digit in cc no) digits (decode_of-ok digits bytes is).1
]

-- the count of tokens is empty or begins with a space
pub tokens_at_space : (count : List ℕ) (tokens : ℕ) → SpellsTokens count tokens → AtSpace count
tokens_at_space count tokens spelled = elim spelled [
  | no_tokens is none ↦ λ some. absurd (omega (arith, ap length is))
  | some_tokens digits is least most all value low high ↦ λ some. rw is refl
]

-- the parts of a piece's line are those around its second space
pub parts_of : (line rest front back : List ℕ) (direction : Direction) (piece : Piece) → (told : IsPiece line piece)
    → line ≡ sign direction ∷ 32 ∷ rest
    → rest ≡ front ++ back → NoSpace front → AtSpace back → (told.digits ≡ front) × (told.count ≡ back)
parts_of line rest front back direction piece told whole cut clean at =
    let same : told.digits ++ told.count ≡ front ++ back = let w = told.whole in cc in
    cut_once told.digits told.count front back (bytes_no_space _ _ told.bytes)
    (tokens_at_space _ _ told.tokens) clean at same

-- a sign belongs to one direction
pub one_direction : (d e : Direction) → sign d ≡ sign e → d ≡ e
one_direction ToServer ToServer same = refl
one_direction ToServer ToClient same = absurd (omega arith)
one_direction ToClient ToServer same = absurd (omega arith)
one_direction ToClient ToClient same = refl

pub one_bytes : (digits a b : List ℕ) → SpellsBytes digits a → SpellsBytes digits b → a ≡ b
one_bytes digits a b x y = elim x [
  | no_bytes is none ↦ elim y [
    | no_bytes is' none' ↦ none ∙ sym none'
    | some_bytes some' is' ↦ let no : decode_of (codes "-") ≡ Ok b = ap decode_of (sym is) ∙ is' in cc no
  ]
  | some_bytes some is ↦ elim y [
    | no_bytes is' none' ↦ let no : decode_of (codes "-") ≡ Ok a = ap decode_of (sym is') ∙ is in cc no
    | some_bytes some' is' ↦ decode_of-same digits a b is is'
  ]
]

pub one_count : (count : List ℕ) (a b : ℕ) → SpellsTokens count a → SpellsTokens count b → a ≡ b
one_count count a b x y = elim x [
  | no_tokens is none ↦ elim y [
    | no_tokens is' none' ↦ none ∙ sym none'
    | some_tokens digits' is' least' most' all' value' low' high' ↦ absurd
        (let no : [] ≡ codes " +" ++ digits' = sym is ∙ is' in cc no)
  ]
  | some_tokens digits is least most all value low high ↦ elim y [
    | no_tokens is' none' ↦ absurd (let no : [] ≡ codes " +" ++ digits = sym is' ∙ is in cc no)
    | some_tokens digits' is' least' most' all' value' low' high' ↦
        let same : digits ≡ digits' = let e : codes " +" ++ digits ≡ codes " +" ++ digits' = sym is ∙ is' in cc e in
        sym value ∙ rw same value'
  ]
]

-- a count is the number after the plus sign
pub number_of-count : (count digits : List ℕ) (tokens : ℕ) → count ≡ codes " +" ++ digits → SpellsTokens count tokens
    → number_of digits ≡ Some tokens
number_of-count count digits tokens whole spelled = elim spelled [
  | no_tokens is none ↦ absurd (let no : [] ≡ codes " +" ++ digits = sym is ∙ whole in cc no)
  | some_tokens digits' is least most all value low high ↦
      let same : digits' ≡ digits = let e : codes " +" ++ digits' ≡ codes " +" ++ digits = sym is ∙ whole in cc e in
      rw (← same, ← value) (number_some digits' least (omega arith) all)
]

-- a piece from its parts
abbrev piece_with : Direction → List ℕ → ℕ → Piece
piece_with direction bytes tokens = record { direction = direction; bytes = bytes; tokens = tokens }

same_pieces : (p q : Piece) → p.direction ≡ q.direction → p.bytes ≡ q.bytes → p.tokens ≡ q.tokens → p ≡ q
same_pieces p q d b t =
    let e : piece_with p.direction p.bytes p.tokens ≡ piece_with q.direction q.bytes q.tokens = rw (d, b, t) refl in e

-- a line is at most one piece
pub one_piece : (line : List ℕ) (p q : Piece) → IsPiece line p → IsPiece line q → p ≡ q
one_piece line p q x y =
    let cut = parts_of line (y.digits ++ y.count) y.digits y.count q.direction p x y.whole refl
    (bytes_no_space _ _ y.bytes) (tokens_at_space _ _ y.tokens) in
    let signs : sign p.direction ≡ sign q.direction = let w = x.whole in let v = y.whole in cc in
    same_pieces p q (one_direction _ _ signs) (one_bytes y.digits p.bytes q.bytes (rw cut.0 at x.bytes) y.bytes)
    (one_count y.count p.tokens q.tokens (rw cut.1 at x.tokens) y.tokens)

-- a skipped line is no piece
pub skipped_tells_none : (line : List ℕ) (p : Piece) → IsSkipped line → IsPiece line p → ⊥
skipped_tells_none line p skipped told = elim skipped [
  | is_empty none ↦ let no : [] ≡ sign p.direction ∷ 32 ∷ (told.digits ++ told.count) = sym none ∙ told.whole in cc no
  | is_comment comment is ↦
      let e : 35 ∷ comment ≡ sign p.direction ∷ 32 ∷ (told.digits ++ told.count) = sym is ∙ told.whole in
      not_a_sign p.direction (cc e)
] where
  not_a_sign : (d : Direction) → 35 ≡ sign d → ⊥
  not_a_sign ToServer e = omega arith
  not_a_sign ToClient e = omega arith

-- what holds of an option that is never `Some`
pub at_none : {X P : Type 0} (Q : X → Type 0) (o : Option X) → ((x : X) → o ≡ Some x → ⊥) → MatchOption o P Q → P
at_none Q None never h = h
at_none Q (Some x) never h = absurd (never x refl)

-- a fact that holds anyway, stated of an error that is passed on
pub on_err : {X E P : Type 0} (r : Result X E) → P → OnErr r P
on_err (Ok x) holds = tt
on_err (Err e) holds = holds
