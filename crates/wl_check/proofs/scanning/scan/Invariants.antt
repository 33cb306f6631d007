use Rattle.std.proofs.Common.{◌≡◌, map, take}
use Rattle.wl_recording.specs.Piece.{recorded_piece}
use Rattle.wl_check.specs.Session.{session_of}
use Rattle.wl_check.specs.SessionState.{AfterPieces}
use Rattle.wl_check.specs.Trace.{trace_of, wanted}
use Rattle.wl_check.proofs.scanning.scan.Given as goal

-- the messages of the pieces so far were judged, and the wanted output for them was written
abbrev pub invariant-pieces : goal.invariant-pieces
invariant-pieces g l = record {
  after : AfterPieces l.fn.limit.bytes l.tables (take l.piece-index (map recorded_piece l.pieces)) l.scanner;
  text : l.journal.sink.text.items ≡ wanted l.fn.output (trace_of l.tables (session_of l.fn.limit.bytes
      (take l.piece-index (map recorded_piece l.pieces))));
  output : l.journal.sink.output ≡ l.fn.output;
}
