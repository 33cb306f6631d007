-- The bytes of a direction whose messages are followed.
use Rattle.std.specs.Prelude.{ℕ, Bool, false, List, []}

-- waiting: the bytes behind the messages that were passed over; kept: how many bytes are in memory;
-- index: the number of the next message; end: where the last message ends; is_lost: whether it had
-- a bad size
pub record FollowedBytes : Type 0 where
  pub waiting : List ℕ
  pub kept : ℕ
  pub index : ℕ
  pub end : ℕ
  pub is_lost : Bool

abbrev pub no_bytes : FollowedBytes
no_bytes = record { waiting = []; kept = 0; index = 1; end = 0; is_lost = false }
