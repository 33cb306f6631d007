-- The lines of a text.
use Rattle.std.specs.Prelude.{◌≡◌, ℕ, ◌==◌, Bool, true, List, [], ◌∷◌}
use Rattle.std.specs.List.{slice_split}

-- a skipped line: it is empty, or a comment, which begins with #
pub data IsSkipped (line : List ℕ) : Type 0 where
  is_empty : line ≡ [] → IsSkipped line
  is_comment : (comment : List ℕ) → line ≡ 35 ∷ comment → IsSkipped line

-- the same as a test
abbrev pub says_nothing : List ℕ → Bool
says_nothing [] = true
says_nothing (byte ∷ more) = byte == 35

-- the words of a line, between its spaces
abbrev pub words : List ℕ → List (List ℕ)
words line = slice_split (λ b. b == 32) line
