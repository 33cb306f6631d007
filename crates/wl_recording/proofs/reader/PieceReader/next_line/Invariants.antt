use Rattle.std.proofs.Common.{ℕ, List, ◌+◌, ◌≤◌, length}
use Rattle.wl_recording.specs.Piece.{Piece}
use Rattle.wl_recording.specs.Text.{IsReadUpTo}
use Rattle.wl_recording.proofs.reader.PieceReader.next_line.Given as goal

-- the lines read by this call so far are skipped
abbrev pub invariant-lines : goal.invariant-lines
invariant-lines l = record {
  read : (text : List ℕ) (pieces : List Piece) → IsReadUpTo text l.initial.self.rest.now l.initial.self.number pieces
      → IsReadUpTo text l.self.rest.now l.self.number pieces;
  room : l.self.number + length l.self.rest.now ≤ l.initial.self.number + length l.initial.self.rest.now;
  shorter : length l.self.rest.now ≤ length l.initial.self.rest.now;
}

abbrev pub decreases-lines : goal.decreases-lines
decreases-lines l = length l.self.rest.now
