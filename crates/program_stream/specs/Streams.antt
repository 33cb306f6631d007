-- What judging a stream gives, in terms of the trace and the verdict of all its bytes.
use Rattle.std.specs.Prelude.{◌≡◌, ◌+◌, ℕ, Bool, true, false, List, [], ◌∷◌, ◌++◌, Option, IfSome}
use Rattle.std.specs.Prelude.{length}
use Rattle.std.specs.Io.{StopsAt}
use Rattle.std.specs.Io.BufRead.{ends_with_byte}
use Rattle.std.specs.Io.KnownBytes.{Appends, Consumes}
use Rattle.std.specs.Str.Lines.{lines}
use Rattle.wl_sigs.specs.Tables.{Interface}
use Rattle.wl_recording.specs.Piece.{Piece}
use Rattle.wl_recording.specs.Text.{IsFirstBad, LinesTell, TextRecords}
use Rattle.wl_check.specs.declared.line_judge.LineJudge.{LineJudge}
use Rattle.wl_check.specs.declared.verdict.Verdict.{Verdict}
use Rattle.wl_check.specs.LinesJudged.{HasJudgedLines}
pub use Rattle.wl_check.specs.LinesJudged.{wanted_lines}
use Rattle.wl_check.specs.Session.{IsVerdictOf, session_of}
use Rattle.program_stream.specs.Writing.{AppendsFront}
use Rattle.program_stream.specs.declared.error.StreamError.{StreamError}
use Rattle.program_stream.specs.declared.error.StreamError.TheVariants.{CannotRead, BadLine}
use Rattle.program_stream.specs.declared.error.StreamError.TheVariants.{CannotWrite, Memory}

-- The text is all that a reader returns, if that is known. It may be of any length.
abbrev pub IsWhole : Option (List ℕ) → List ℕ → Type 0
IsWhole known text = IfSome known (λ all. text ≡ all)

-- All of a stream was judged: it is a recording, this is the verdict on it, and its lines were
-- written if they are wanted.
pub record IsStreamJudged (prints_lines : Bool) (limit : ℕ) (tables : List Interface)
    (known old new : Option (List ℕ)) (verdict : Verdict) : Type 0 where
  pub text : List ℕ
  pub whole : IsWhole known text
  pub pieces : List Piece
  pub recorded : TextRecords text pieces
  pub answers : IsVerdictOf tables (session_of limit pieces) verdict
  pub written : Appends old new (wanted_lines prints_lines limit tables pieces)

-- why a stream ended after these lines: a bad line is the first of its text, and the next one
abbrev pub IsCause : List ℕ → List (List ℕ) → StreamError → Type 0
IsCause text before (BadLine n) = (n ≡ length before + 1) × IsFirstBad text n
IsCause text before CannotRead = Unit {0}
IsCause text before CannotWrite = Unit {0}
IsCause text before Memory = Unit {0}

-- the output was written; if the writer failed, only a front part of it
abbrev pub WrittenBefore : StreamError → Option (List ℕ) → Option (List ℕ) → List ℕ → Type 0
WrittenBefore CannotWrite old new output = AppendsFront old new output
WrittenBefore CannotRead old new output = Appends old new output
WrittenBefore (BadLine n) old new output = Appends old new output
WrittenBefore Memory old new output = Appends old new output

-- A stream was judged up to some line, and the lines of the session so far were written if they are
-- wanted.
pub record IsCutShort (prints_lines : Bool) (limit : ℕ) (tables : List Interface)
    (known old new : Option (List ℕ)) (why : StreamError) : Type 0 where
  pub text : List ℕ
  pub whole : IsWhole known text
  pub before : List (List ℕ)
  pub after : List (List ℕ)
  pub cut : lines text ≡ before ++ after
  pub pieces : List Piece
  pub told : LinesTell before pieces
  pub cause : IsCause text before why
  pub written : WrittenBefore why old new (wanted_lines prints_lines limit tables pieces)

-- ---- steps

-- why reading fails
abbrev pub IsReadError : StreamError → Type 0
IsReadError CannotRead = Unit {0}
IsReadError Memory = Unit {0}
IsReadError CannotWrite = ⊥
IsReadError (BadLine n) = ⊥

-- One line was read, with its line feed. Without a line feed it is all that was left.
pub record ReadsLine (known after : Option (List ℕ)) (line : List ℕ) : Type 0 where
  pub consumed : Consumes known after line
  pub stops : StopsAt line 10
  pub last : ends_with_byte 10 line ≡ false → IsWhole known line

-- A judge of lines with these pieces judged one more line, and the lines that the trace gains were
-- appended if they are wanted.
pub record JudgesLine {A : Type 0} (prints_lines : Bool) (limit : ℕ) (tables : List Interface)
    (pieces : List Piece) (line : List ℕ) (judge : LineJudge A) (old new : List ℕ) : Type 0
  where
    pub more : List Piece
    pub told : LinesTell (line ∷ []) more
    pub passed : HasJudgedLines prints_lines limit tables (pieces ++ more) judge
    pub shown : List ℕ
    pub appended : new ≡ old ++ shown
    pub lines_are : wanted_lines prints_lines limit tables (pieces ++ more)
        ≡ wanted_lines prints_lines limit tables pieces ++ shown

-- The bytes that were read are these whole lines, whatever follows.
abbrev pub AreWhole : List ℕ → List (List ℕ) → Type 0
AreWhole bytes whole = (rest : List ℕ) → lines (bytes ++ rest) ≡ whole ++ lines rest

-- A stream was read up to the end of a line, and judged; what was written and what waits to be
-- written are the lines so far, if they are wanted.
pub record IsStreamedTo {A : Type 0} (prints_lines : Bool) (limit : ℕ) (tables : List Interface)
    (known left : Option (List ℕ)) (number : ℕ) (judge : LineJudge A)
    (written waiting : List ℕ) : Type 0 where
  pub bytes : List ℕ
  pub consumed : Consumes known left bytes
  pub before : List (List ℕ)
  pub whole : AreWhole bytes before
  pub count : number ≡ length before
  pub pieces : List Piece
  pub told : LinesTell before pieces
  pub passed : HasJudgedLines prints_lines limit tables pieces judge
  pub printed : written ++ waiting ≡ wanted_lines prints_lines limit tables pieces

-- A stream was read to its end, and judged.
pub record HasEnded {A : Type 0} (prints_lines : Bool) (limit : ℕ) (tables : List Interface)
    (known : Option (List ℕ)) (judge : LineJudge A) (written waiting : List ℕ) : Type 0 where
  pub text : List ℕ
  pub whole : IsWhole known text
  pub pieces : List Piece
  pub recorded : TextRecords text pieces
  pub passed : HasJudgedLines prints_lines limit tables pieces judge
  pub printed : written ++ waiting ≡ wanted_lines prints_lines limit tables pieces

-- after a line there may be another one, or the stream has ended
abbrev pub MayGoOn : {A : Type 0} → Bool → Bool → ℕ → List Interface → Option (List ℕ)
    → Option (List ℕ) → ℕ → LineJudge A → List ℕ → List ℕ → Type 0
MayGoOn true prints_lines limit tables known left number judge written waiting =
    IsStreamedTo prints_lines limit tables known left (number + 1) judge written waiting
MayGoOn false prints_lines limit tables known left number judge written waiting =
    HasEnded prints_lines limit tables known judge written waiting

-- A stream was judged up to some line, and cannot go on.
pub record IsStopped (prints_lines : Bool) (limit : ℕ) (tables : List Interface)
    (known : Option (List ℕ)) (why : StreamError) (written waiting : List ℕ) : Type 0 where
  pub text : List ℕ
  pub whole : IsWhole known text
  pub before : List (List ℕ)
  pub after : List (List ℕ)
  pub cut : lines text ≡ before ++ after
  pub pieces : List Piece
  pub told : LinesTell before pieces
  pub cause : IsCause text before why
  pub takes : (why ≡ CannotWrite) → ⊥
  pub printed : written ++ waiting ≡ wanted_lines prints_lines limit tables pieces

-- all was judged, and the lines were written if they are wanted
pub record HasJudged {A : Type 0} (prints_lines : Bool) (limit : ℕ) (tables : List Interface)
    (known : Option (List ℕ)) (judge : LineJudge A) (old new : Option (List ℕ)) : Type 0 where
  pub text : List ℕ
  pub whole : IsWhole known text
  pub pieces : List Piece
  pub recorded : TextRecords text pieces
  pub passed : HasJudgedLines prints_lines limit tables pieces judge
  pub written : Appends old new (wanted_lines prints_lines limit tables pieces)
