-- The lines of a recording that were judged one after another.
use Rattle.std.specs.Prelude.{◌≡◌, ℕ, Bool, true, false, List, [], ◌∷◌, ◌++◌}
use Rattle.wl_sigs.specs.Tables.{Interface}
use Rattle.wl_recording.specs.Piece.{Piece}
use Rattle.wl_recording.specs.Text.{LinesTell}
use Rattle.wl_check.specs.declared.line_judge.LineJudge.{LineJudge}
use Rattle.wl_check.specs.declared.session_state.Output.{Output}
use Rattle.wl_check.specs.declared.session_state.Output.TheVariants.{Nothing, Lines}
use Rattle.wl_check.specs.Session.{session_of}
use Rattle.wl_check.specs.SessionState.{AfterPieces}
use Rattle.wl_check.specs.Trace.{trace_of}

-- what is printed of a session: its trace, if lines are wanted
abbrev pub wanted_lines : Bool → ℕ → List Interface → List Piece → List ℕ
wanted_lines true limit tables pieces = trace_of tables (session_of limit pieces)
wanted_lines false limit tables pieces = []

abbrev pub output_of : Bool → Output
output_of true = Lines
output_of false = Nothing

-- the lines that its last call printed
abbrev pub line_text : {A : Type 0} → LineJudge A → List ℕ
line_text j = j.journal.sink.text.items

-- Lines with these pieces, and no others, were judged with this limit and these tables.
pub record HasJudgedLines {A : Type 0} (prints_lines : Bool) (limit : ℕ) (tables : List Interface)
    (ps : List Piece) (j : LineJudge A) : Type 0 where
  pub limit_is : j.limit.bytes ≡ limit
  pub tables_are : j.tables.now ≡ tables
  pub prints : j.journal.sink.output ≡ output_of prints_lines
  pub stands : j.has_failed ≡ false
  pub after : AfterPieces limit tables ps j.scanner

-- One more line was judged, and its lines were printed if they are wanted.
pub record JudgesOne {A : Type 0} (prints_lines : Bool) (limit : ℕ) (tables : List Interface)
    (ps : List Piece) (line : List ℕ) (j : LineJudge A) : Type 0 where
  pub more : List Piece
  pub told : LinesTell (line ∷ []) more
  pub judged : HasJudgedLines prints_lines limit tables (ps ++ more) j
  pub lines_are : wanted_lines prints_lines limit tables (ps ++ more)
      ≡ wanted_lines prints_lines limit tables ps ++ line_text j
