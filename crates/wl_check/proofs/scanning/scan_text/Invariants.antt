use Rattle.std.proofs.Common.{◌≡◌, List, length}
use Rattle.wl_recording.specs.Piece.{Piece}
use Rattle.wl_recording.specs.Text.{IsReadUpTo}
use Rattle.wl_check.specs.Session.{session_of}
use Rattle.wl_check.specs.SessionState.{AfterPieces}
use Rattle.wl_check.specs.Trace.{trace_of, wanted}
use Rattle.wl_check.proofs.scanning.scan_text.Given as goal

-- The lines so far are those of pieces. Their messages were judged, and the wanted output for these
-- was written.
abbrev pub invariant-pieces : goal.invariant-pieces
invariant-pieces g l = (pieces : List Piece) × IsReadUpTo l.text l.reader.rest.now l.reader.number pieces
    × AfterPieces l.fn.limit.bytes l.tables pieces l.scanner
    × (l.journal.sink.text.items ≡ wanted l.fn.output (trace_of l.tables (session_of l.fn.limit.bytes pieces)))
    × (l.journal.sink.output ≡ l.fn.output)

abbrev pub decreases-pieces : goal.decreases-pieces
decreases-pieces g l = length l.reader.rest.now
