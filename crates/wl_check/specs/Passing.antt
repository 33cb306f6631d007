-- A piece that passes.
use Rattle.wl_recording.specs.Piece.{Piece}
use Rattle.wl_check.specs.declared.frames.LentPiece.{LentPiece}
use Rattle.wl_check.specs.Printed.{piece_of}

-- the piece that is borrowed
abbrev pub piece_in : LentPiece → Piece
piece_in lent = piece_of lent.direction lent.bytes.now lent.tokens
