-- A text is one list of pieces, or has one first bad line.
use Rattle.std.proofs.Common.{◌≡◌, ℕ, ◌<◌, ◌≤◌, List, [], ◌∷◌, ◌++◌, length, get_or, refl, sym, ap}
use Rattle.std.proofs.Common.{◌∙◌, inl, inr, ◌⊎◌, arith, subst}
use Rattle.std.specs.Prelude.{Result, Ok, Err, IfOk, IfErr, IsErrAnd}
use Rattle.std.specs.List.{All}
use Rattle.std.specs.Str.Lines.{lines}
use Rattle.std.proofs.lemmas.Bool.{cases_lt}
use Rattle.std.proofs.lemmas.List.{get_or_at, get_or_append_left, length-append}
use Rattle.std.proofs.lemmas.List.Elements.{All-cons, All-nil, All-get_or}
use Rattle.hex.proofs.HexLemmas.{decode_of-ok}
use Rattle.wl_recording.specs.declared.recording.RecordingError.{RecordingError}
use Rattle.wl_recording.specs.declared.recording.RecordingError.TheVariants.{BadLine, Memory}
use Rattle.wl_recording.specs.Piece.{Piece, IsTellable}
use Rattle.wl_recording.specs.Line.{SpellsBytes, no_bytes, some_bytes, SpellsTokens, no_tokens, some_tokens}
use Rattle.wl_recording.specs.Text.{LinesTell, ends, skips, tells, TextRecords, IsGood, IsFirstBad}
use Rattle.wl_recording.proofs.PieceLemmas.{one_piece, skipped_tells_none}

-- the pieces of two runs of lines
pub tell_append : {front back : List (List ℕ)} {first rest : List Piece} → LinesTell front first → LinesTell back rest
    → LinesTell (front ++ back) (first ++ rest)
tell_append ends later = later
tell_append (skips skipped more) later = skips skipped (tell_append more later)
tell_append (tells told more) later = tells told (tell_append more later)

-- lines are at most one list of pieces
pub tell_once : {all : List (List ℕ)} {pieces others : List Piece} → LinesTell all pieces → LinesTell all others
    → pieces ≡ others
tell_once ends ends = refl
tell_once (skips skipped more) (skips skipped' more') = tell_once more more'
tell_once (skips skipped more) (tells told' more') = absurd (skipped_tells_none _ _ skipped told')
tell_once (tells told more) (skips skipped' more') = absurd (skipped_tells_none _ _ skipped' told)
tell_once (tells told more) (tells told' more') =
    rw (one_piece _ _ _ told told', tell_once more more') refl

-- such lines contain no bad one
pub tell_good : {all : List (List ℕ)} {pieces : List Piece} → LinesTell all pieces → All IsGood all
tell_good ends = All-nil IsGood
tell_good (skips skipped more) = All-cons IsGood _ _ (inl skipped) (tell_good more)
tell_good (tells told more) = All-cons IsGood _ _ (inr (_, told)) (tell_good more)

bytes_small : (digits bytes : List ℕ) → SpellsBytes digits bytes → (k : ℕ) → get_or bytes k 0 < 256
bytes_small digits bytes spelled = elim spelled [
  | no_bytes is none ↦ λ k. rw none (omega arith)
  | some_bytes some is ↦ (decode_of-ok digits bytes is).3
]

tokens_small : (count : List ℕ) (tokens : ℕ) → SpellsTokens count tokens → tokens ≤ 65535
tokens_small count tokens spelled = elim spelled [
  | no_tokens is none ↦ omega arith
  | some_tokens digits is least most all value low high ↦ high
]

-- each of their pieces can be a line
pub tell_tellable : {all : List (List ℕ)} {pieces : List Piece} → LinesTell all pieces → All IsTellable pieces
tell_tellable ends = All-nil IsTellable
tell_tellable (skips skipped more) = tell_tellable more
tell_tellable (tells told more) =
    All-cons IsTellable _ _ (record { bytes = bytes_small _ _ told.bytes; tokens = tokens_small _ _ told.tokens })
    (tell_tellable more)

-- a text of pieces has no bad line
pub told_not_bad : (text : List ℕ) (pieces : List Piece) (n : ℕ) → TextRecords text pieces → IsFirstBad text n → ⊥
told_not_bad text pieces n told bad =
    let good : All IsGood (bad.before ++ bad.line ∷ bad.after) = rw bad.whole at (tell_good told) in
    let here = All-get_or IsGood (bad.before ++ bad.line ∷ bad.after) (length bad.before) []
    (omega (arith, length-append bad.before (bad.line ∷ bad.after))) good in
    bad.bad (rw (get_or_at bad.before bad.line bad.after [] (length bad.before) refl) at here)

-- the lines before the first bad one are good
earlier : (text : List ℕ) (n m : ℕ) (x : IsFirstBad text n) (y : IsFirstBad text m) → length x.before < length y.before
    → ⊥
earlier text n m x y lt =
    let good = All-get_or IsGood y.before (length x.before) [] lt y.good in
    let at_x : get_or (lines text) (length x.before) [] ≡ x.line =
    rw x.whole (get_or_at x.before x.line x.after [] (length x.before) refl) in
    let at_y : get_or (lines text) (length x.before) [] ≡ get_or y.before (length x.before) [] =
    rw y.whole (get_or_append_left y.before (y.line ∷ y.after) [] (length x.before) lt) in
    x.bad (rw (sym at_y ∙ at_x) at good)

-- a text has at most one first bad line
pub one_first_bad : (text : List ℕ) (n m : ℕ) → IsFirstBad text n → IsFirstBad text m → n ≡ m
one_first_bad text n m x y =
    elim (cases_lt (length x.before) (length y.before)) [
      | inl lt ↦ absurd (earlier text n m x y lt)
      | inr ge ↦ elim (cases_lt (length y.before) (length x.before)) [
        | inl lt ↦ absurd (earlier text m n y x lt)
        | inr le ↦ omega (arith, x.place, y.place)
      ]
    ]

-- why a text is refused: its first bad line, or out of memory
abbrev pub IsRefused : List ℕ → RecordingError → Type 0
IsRefused text e = (e ≡ Memory) ⊎ ((n : ℕ) × (e ≡ BadLine n) × IsFirstBad text n)

pub only_told : (text : List ℕ) (r : Result (List Piece) RecordingError) → IfOk r (TextRecords text)
    → IfErr r (IsRefused text)
    → (pieces : List Piece) → TextRecords text pieces → (r ≡ Ok pieces) ⊎ (r ≡ Err Memory)
only_told text (Ok found) ok err pieces told = inl (ap Ok (tell_once ok told))
only_told text (Err e) ok err pieces told = elim err [
  | inl memory ↦ inr (ap Err memory)
  | inr bad ↦ absurd (told_not_bad text pieces bad.0 told bad.2)
]

pub first_refused : (text : List ℕ) (r : Result (List Piece) RecordingError) → IfOk r (TextRecords text)
    → IfErr r (IsRefused text)
    → (n : ℕ) → IsFirstBad text n → (r ≡ Err (BadLine n)) ⊎ (r ≡ Err Memory)
first_refused text (Ok found) ok err n bad = absurd (told_not_bad text found n ok bad)
first_refused text (Err e) ok err n bad = elim err [
  | inl memory ↦ inr (ap Err memory)
  | inr found ↦ inl (ap Err (found.1 ∙ ap BadLine (one_first_bad text found.0 n found.2 bad)))
]

-- an error that is passed on
pub refused_on : {X E : Type 0} (r : Result X E) (x : E) (R Q : E → Type 0) → IsErrAnd r R → ((e : E) → R e → e ≡ x)
    → Q x → IfErr r Q
refused_on (Ok found) x R Q is same h = tt
refused_on (Err e) x R Q is same h = subst Q (sym (same e is)) h
