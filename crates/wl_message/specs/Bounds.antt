-- How much an inbox and an outbox can hold.
use Rattle.std.specs.Prelude.{ℕ}

-- the most bytes and the most tokens that an inbox or an outbox can hold
abbrev pub max_queue_bytes : ℕ
max_queue_bytes = 16777216

abbrev pub max_queue_tokens : ℕ
max_queue_tokens = 65536

-- the smallest token capacity of an inbox: the most tokens of one message
abbrev pub min_inbox_tokens : ℕ
min_inbox_tokens = 20

-- the longest error event in bytes, for which an outbox has room beyond its capacity
abbrev pub max_error_len : ℕ
max_error_len = 148
