use Rattle.std.proofs.Common.{length}
use Rattle.std.specs.Prelude.{map}
use Rattle.wl_recording.specs.Piece.{recorded_piece}
use Rattle.wl_recording.specs.Text.{IsReadUpTo}
use Rattle.wl_recording.proofs.recording.Recording.read.Given as goal

-- the pieces so far are those of the lines read so far
abbrev pub invariant-pieces : goal.invariant-pieces
invariant-pieces g l = IsReadUpTo l.text l.reader.rest.now l.reader.number (map recorded_piece l.pieces.items)

abbrev pub decreases-pieces : goal.decreases-pieces
decreases-pieces g l = length l.reader.rest.now
