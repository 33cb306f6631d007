use Rattle.std.proofs.Common.{◌≡◌, take}
use Rattle.std.specs.Prelude.{map}
use Rattle.wl_recording.specs.Piece.{recorded_piece}
use Rattle.wl_recording.specs.Text.{recording_text}
use Rattle.wl_recording.proofs.recording.Recording.to_text.Given as goal

abbrev pub invariant-loop-piece : goal.invariant-loop-piece
invariant-loop-piece g l = l.text.items ≡ recording_text (map recorded_piece (take l.piece-index l.piece-items))
