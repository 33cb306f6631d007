-- Recordings as text.
use Rattle.std.specs.Prelude.{◌≡◌, ℕ, ◌+◌, ◌<◌, ◌≤◌, ◌⊎◌, List, [], ◌∷◌, ◌++◌, length}
use Rattle.std.specs.List.{All}
use Rattle.std.specs.Str.Lines.{lines}
use Rattle.wl_recording.specs.Piece.{Piece}
use Rattle.wl_text.specs.Lines.{IsSkipped}
use Rattle.wl_recording.specs.Line.{IsPiece, line_of}

-- The lines that are not skipped are these pieces, one each, in order.
pub data LinesTell : List (List ℕ) → List Piece → Type 0 where
  ends : LinesTell [] []
  skips : {line : List ℕ} {more : List (List ℕ)} {pieces : List Piece}
      → IsSkipped line → LinesTell more pieces → LinesTell (line ∷ more) pieces
  tells : {line : List ℕ} {more : List (List ℕ)} {piece : Piece} {pieces : List Piece}
      → IsPiece line piece → LinesTell more pieces → LinesTell (line ∷ more) (piece ∷ pieces)

-- The text records these pieces. Each line ends with a line feed, which the last may lack. One
-- carriage return before a line feed is not part of its line.
abbrev pub TextRecords : List ℕ → List Piece → Type 0
TextRecords text pieces = LinesTell (lines text) pieces

-- a line that a recording may have
abbrev pub IsGood : List ℕ → Type 0
IsGood line = IsSkipped line ⊎ ((piece : Piece) × IsPiece line piece)

-- Line n is the first line of the text that a recording may not have. Lines are counted from 1,
-- including skipped ones.
pub record IsFirstBad (text : List ℕ) (n : ℕ) : Type 0 where
  pub before : List (List ℕ)
  pub line : List ℕ
  pub after : List (List ℕ)
  pub whole : lines text ≡ before ++ line ∷ after
  pub place : n ≡ length before + 1
  pub good : All IsGood before
  pub bad : ¬ IsGood line

-- A text was read up to this rest: this number of lines precede it, and they are these pieces.
pub record IsReadUpTo (text rest : List ℕ) (number : ℕ) (pieces : List Piece) : Type 0 where
  pub done : List (List ℕ)
  pub whole : lines text ≡ done ++ lines rest
  pub count : number ≡ length done
  pub told : LinesTell done pieces
  pub room : number + length rest ≤ length text

-- A text was read up to this rest. The last line read is this one, with this number; it is not
-- skipped, and the lines before it are these pieces.
pub record IsReached (text rest : List ℕ) (number : ℕ) (line : List ℕ) (pieces : List Piece)
    : Type 0 where
  pub before : ℕ
  pub front : List ℕ
  pub read : IsReadUpTo text front before pieces
  pub next : number ≡ before + 1
  pub first : lines front ≡ line ∷ lines rest
  pub shorter : length rest < length front
  pub inked : ¬ IsSkipped line

-- the one text that a writer produces: each piece's line, ended by a line feed
abbrev pub recording_text : List Piece → List ℕ
recording_text [] = []
recording_text (piece ∷ pieces) = line_of piece ++ 10 ∷ recording_text pieces
