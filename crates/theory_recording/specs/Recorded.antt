-- What a recording contains of the messages of one direction that are not yet read.
use Rattle.std.specs.Prelude.{◌≡◌, ℕ, ◌+◌, false, List, ◌++◌, length, drop}
use Rattle.wl_message.specs.Outgoing as boxes
use Rattle.wl_message.specs.Outgoing.{all_bytes, all_tokens}
use Rattle.wl_message.specs.Arrived.{Arrived}
use Rattle.wl_recording.specs.declared.piece.Direction.{Direction}
use Rattle.wl_recording.specs.Piece.{Piece}
use Rattle.wl_check.specs.Merged.{cut, stream_of, piece_tokens}

-- These messages were recorded whole and wait in the inbox. After them, the inbox and the
-- direction's stream end with the same part of the next message, which may be empty, and the stream
-- has no bad size. (The inbox has the limit with which the stream is cut.) The recorded messages
-- took this many tokens, including those of the messages that wait; any further tokens that the
-- pieces brought wait for later messages.
pub record Recorded (limit : ℕ) (direction : Direction) (pieces : List Piece)
    (inbox : Arrived) (taken : ℕ) (seen : List boxes.QueuedMessage) : Type 0 where
  pub same_limit : inbox.limit.bytes ≡ limit
  pub part : List ℕ
  pub sound : (cut limit (stream_of direction pieces)).has_bad_size ≡ false
  pub rest : drop (cut limit (stream_of direction pieces)).place (stream_of direction pieces) ≡ part
  pub waits : inbox.bytes ≡ all_bytes seen ++ part
  pub tokens : piece_tokens direction pieces + length (all_tokens seen)
      ≡ taken + length inbox.tokens
