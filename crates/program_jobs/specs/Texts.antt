-- Table texts in several files, read as one text.
use Rattle.std.specs.Prelude.{◌≡◌, ◌≤◌, ◌<◌, ◌+◌, ◌-◌, ℕ, Bool, false, List, [], ◌∷◌, ◌++◌}
use Rattle.std.specs.Prelude.{length, map, count_by, bytes_eq, nat_eq, nat_le, if◌then◌else◌}
use Rattle.std.specs.Prelude.{Option, Some, None, IfSome}
use Rattle.std.specs.List.{flat_map}
use Rattle.program_jobs.specs.declared.tables.TablesFile.{TablesFile}
use Rattle.program_jobs.specs.declared.tables.ReadText.{ReadText}

-- the most bytes of a file
abbrev pub most_bytes : ℕ
most_bytes = 16777216

-- The text is all that a reader returns, if that is known, and no more than may be read.
pub record IsFileRead (known : Option (List ℕ)) (text : List ℕ) : Type 0 where
  pub within : length text ≤ most_bytes
  pub all : IfSome known (λ all. text ≡ all)

-- more bytes are known than may be read
abbrev pub IsTooLong : Option (List ℕ) → Type 0
IsTooLong known = IfSome known (λ all. most_bytes < length all)

-- a file with a table text: its name, and all its bytes, if they are known
pub record Source : Type 0 where
  pub name : List ℕ
  pub known : Option (List ℕ)

-- a text that was read, and the name of its file
pub record NamedText : Type 0 where
  pub name : List ℕ
  pub bytes : List ℕ

abbrev pub source_of : {T : Type 0} → (T → Option (List ℕ)) → TablesFile T → Source
source_of remaining file = record { name = file.name.now; known = remaining file.file }

abbrev pub sources_of : {T : Type 0} → (T → Option (List ℕ)) → List (TablesFile T) → List Source
sources_of remaining files = map (source_of remaining) files

abbrev pub named_text : {A : Type 0} → ReadText A → NamedText
named_text text = record { name = text.name.now; bytes = text.bytes.items }

abbrev pub named_texts : {A : Type 0} → List (ReadText A) → List NamedText
named_texts texts = map named_text texts

-- this text was read from this file
pub record IsTextOf (source : Source) (text : NamedText) : Type 0 where
  pub name_is : text.name ≡ source.name
  pub read : IsFileRead source.known text.bytes

-- these texts were read, one from each file, in their order
pub data AreRead : List Source → List NamedText → Type 0 where
  no_text : AreRead [] []
  one_text : (sources : List Source) (texts : List NamedText) (source : Source) (text : NamedText)
      → AreRead sources texts → IsTextOf source text
      → AreRead (sources ++ source ∷ []) (texts ++ text ∷ [])

-- The texts joined. Between every two texts is a line feed, so the last line of a text and the
-- first line of the next are two lines, even if the first text does not end with a line feed.
abbrev pub as_one : List NamedText → List ℕ
as_one [] = []
as_one (text ∷ texts) = text.bytes ++ flat_map (λ (next : NamedText). 10 ∷ next.bytes) texts

-- how many lines a text has in the joined text: one more than it has line feeds
abbrev pub is_line_feed : ℕ → Bool
is_line_feed byte = nat_eq byte 10

abbrev pub lines_in : List ℕ → ℕ
lines_in bytes = count_by is_line_feed bytes + 1

-- which file a line of the joined text is from, and which line of that file it is; lines are
-- counted from 1
abbrev pub own_line : List NamedText → ℕ → List ℕ × ℕ
own_line [] line = ([], line)
own_line (text ∷ texts) line =
    if nat_le line (lines_in text.bytes) then (text.name, line)
    else own_line texts (line - lines_in text.bytes)

-- one text was read, and its file is the only word of the command line
abbrev pub is_only : List (List ℕ) → List NamedText → Bool
is_only (word ∷ []) (text ∷ []) = bytes_eq word text.name
is_only _ _ = false

-- How a failure names a line of the joined text: by the line alone if the command line names one
-- file, else by the file and its line.
abbrev pub said_line : List (List ℕ) → List NamedText → ℕ → Option (List ℕ) × ℕ
said_line given texts line =
    if is_only given texts then (None, line)
    else (Some (own_line texts line).0, (own_line texts line).1)
