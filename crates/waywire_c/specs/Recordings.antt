-- What is reported about a piece of a recording's text.
use Rattle.std.specs.Prelude.{◌≡◌, ℕ, List, length, Some}
use Rattle.wl_recording.specs.Piece.{Piece}
use Rattle.waywire_c.specs.Inspecting.{direction_of}
use Rattle.waywire_c.specs.declared.recording.CPiece.{CPiece}

-- This is reported about a piece with these bytes, with this much of the text left after this many
-- lines.
pub record TellsPiece (piece : Piece) (left number : ℕ) (bytes : List ℕ) (told : CPiece)
    : Type 0 where
  pub sender : direction_of told.sender ≡ Some piece.direction
  pub tokens : told.tokens ≡ piece.tokens
  pub bytes_are : bytes ≡ piece.bytes
  pub length_is : told.length ≡ length piece.bytes
  pub left_is : told.left ≡ left
  pub number_is : told.number ≡ number
