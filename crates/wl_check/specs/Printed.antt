-- What is printed for a piece as it passes.
use Rattle.std.specs.Prelude.{◌≡◌, ℕ, List, [], ◌∷◌, ◌++◌}
use Rattle.wl_sigs.specs.Tables.{Interface}
use Rattle.wl_recording.specs.declared.piece.Direction.{Direction}
use Rattle.wl_recording.specs.Piece.{Piece}
use Rattle.wl_check.specs.Session.{Session, session_of}
use Rattle.wl_check.specs.declared.session_state.Output.{Output}
use Rattle.wl_check.specs.Trace.{lines_within, trace_of, wanted}

-- a piece with these bytes and tokens
abbrev pub piece_of : Direction → List ℕ → ℕ → Piece
piece_of direction bytes tokens = record { direction = direction; bytes = bytes; tokens = tokens }

-- The lines of a piece that others precede: the trace of all of them is that of the others followed
-- by these lines.
abbrev pub AreOwnLines : ℕ → List Interface → List Piece → Piece → List ℕ → Type 0
AreOwnLines limit tables ps piece lines =
    trace_of tables (session_of limit (ps ++ piece ∷ []))
    ≡ trace_of tables (session_of limit ps) ++ lines

-- Writing continued from one number of messages to another: if some text, followed by what was
-- there, was the wanted output for the first number, then the same text, followed by what is there
-- now, is the wanted output for the second.
abbrev pub PrintsOn : List Interface → Session → Output → ℕ → ℕ → List ℕ → List ℕ → Type 0
PrintsOn tables s output before after old new =
    (earlier : List ℕ) → earlier ++ old ≡ wanted output (lines_within tables s before)
    → earlier ++ new ≡ wanted output (lines_within tables s after)

-- Writing continued over a piece after others: from the wanted output for the messages of these to
-- that including the piece's messages.
abbrev pub PrintsPiece : ℕ → List Interface → Output → List Piece → Piece → List ℕ → List ℕ → Type 0
PrintsPiece limit tables output ps piece old new =
    (earlier : List ℕ) → earlier ++ old ≡ wanted output (trace_of tables (session_of limit ps))
    → earlier ++ new ≡ wanted output (trace_of tables (session_of limit (ps ++ piece ∷ [])))
