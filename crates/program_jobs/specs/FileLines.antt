-- The lines of table texts, and of all these texts joined.
use Rattle.std.specs.Prelude.{◌≡◌, ◌+◌, ℕ, List, ◌∷◌, ◌++◌, length}
use Rattle.std.specs.List.{flat_map, slice_split}
use Rattle.program_jobs.specs.Texts.{NamedText, is_line_feed}

-- The lines of a text: the parts between its line feeds. A text that ends with a line feed has an
-- empty line after it. A carriage return before a line feed is part of its line here.
abbrev pub lines_of : List ℕ → List (List ℕ)
lines_of text = slice_split is_line_feed text

-- the lines of all these files, in their order
abbrev pub lines_of_files : List NamedText → List (List ℕ)
lines_of_files texts = flat_map (λ (text : NamedText). lines_of text.bytes) texts

-- The text has this line at this number. Lines are counted from 1.
pub record HasLine (text : List ℕ) (number : ℕ) (line : List ℕ) : Type 0 where
  pub before : List (List ℕ)
  pub after : List (List ℕ)
  pub whole : lines_of text ≡ before ++ line ∷ after
  pub place : number ≡ length before + 1

-- A file of this name has the line at `own`. Counted through all files, that is line `number`.
pub record IsLineOfFile (texts : List NamedText) (number : ℕ) (line name : List ℕ) (own : ℕ)
    : Type 0 where
  pub before : List NamedText
  pub file : NamedText
  pub after : List NamedText
  pub whole : texts ≡ before ++ file ∷ after
  pub named : file.name ≡ name
  pub place : number ≡ length (lines_of_files before) + own
  pub has : HasLine file.bytes own line
