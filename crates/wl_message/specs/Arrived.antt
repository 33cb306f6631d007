-- Bytes and tokens that were received and wait.
use Rattle.std.specs.Prelude.{◌≡◌, ℕ, ◌-◌, ◌≤◌, nat_le, min, if◌then◌else◌, List, [], ◌++◌, length}
use Rattle.std.specs.Prelude.{take, drop, Result, Ok, Err, Option, Some, None}
use Rattle.wl_wire.specs.Word.{header_bytes}
use Rattle.wl_wire.specs.declared.header.Header.{Header}
use Rattle.wl_message.specs.declared.amounts.Amounts.{Amounts}
use Rattle.wl_message.specs.declared.amounts.Sizes.{Sizes}
use Rattle.wl_message.specs.declared.inbox.BadSize.{BadSize}
use Rattle.wl_message.specs.declared.inbox.Frame.{Frame}
use Rattle.wl_message.specs.declared.limit.Limit.{Limit}
use Rattle.wl_message.specs.Bounds.{max_queue_bytes, max_queue_tokens, min_inbox_tokens}
use Rattle.wl_message.specs.Cut.{front, Front, More, Bad, Whole, told_size}

-- An inbox: the bytes and tokens that wait, how many of each may wait, how many bytes a message may
-- have, and the body and tokens of the message that was taken out last.
pub record Arrived : Type 0 where
  pub bytes : List ℕ
  pub tokens : List ℕ
  pub capacity : ℕ
  pub token_capacity : ℕ
  pub limit : Limit
  pub last : List ℕ
  pub last_tokens : List ℕ

-- nothing waits, and no message was taken out yet
abbrev pub nothing_arrived : ℕ → ℕ → Limit → Arrived
nothing_arrived bytes tokens limit = record {
  bytes = [];
  tokens = [];
  capacity = bytes;
  token_capacity = tokens;
  limit = limit;
  last = [];
  last_tokens = [];
}

-- what is at the front of the waiting bytes
abbrev pub in_front : Arrived → Front
in_front a = front a.limit.bytes a.bytes

-- how many bytes are free
abbrev pub free_bytes : Arrived → ℕ
free_bytes a = a.capacity - length a.bytes

-- how many tokens are free
abbrev pub free_tokens : Arrived → ℕ
free_tokens a = a.token_capacity - length a.tokens

-- How much of these bytes and tokens is taken in: as many tokens as fit, and, if all of them fit,
-- as many bytes as fit.
abbrev pub fed : Arrived → List ℕ → List ℕ → Amounts
fed a bytes tokens = record {
  bytes = if nat_le (length tokens) (free_tokens a) then min (length bytes) (free_bytes a) else 0;
  tokens = min (length tokens) (free_tokens a);
}

-- how much of n bytes and of these tokens is taken in, by the same rule
abbrev pub fed_of_len : Arrived → ℕ → List ℕ → Amounts
fed_of_len a n tokens = record {
  bytes = if nat_le (length tokens) (free_tokens a) then min n (free_bytes a) else 0;
  tokens = min (length tokens) (free_tokens a);
}

-- these bytes and tokens are appended
abbrev pub with_more : Arrived → List ℕ → List ℕ → Arrived
with_more a bytes tokens = record a { bytes = a.bytes ++ bytes; tokens = a.tokens ++ tokens }

-- some n bytes and these tokens were taken in
pub record HasReceived (a : Arrived) (n : ℕ) (tokens : List ℕ) (a' : Arrived) : Type 0 where
  pub bytes : List ℕ
  pub count : length bytes ≡ n
  pub behind : a' ≡ with_more a bytes tokens

-- without the first message, given its numbers of bytes and tokens
abbrev pub without_first : Arrived → ℕ → ℕ → Arrived
without_first a bytes tokens = record a {
  bytes = drop bytes a.bytes;
  tokens = drop tokens a.tokens;
  last = drop 8 (take bytes a.bytes);
  last_tokens = take tokens a.tokens;
}

-- without the first tokens, given their number; no message is removed
abbrev pub without_tokens : Arrived → ℕ → Arrived
without_tokens a tokens = record a { tokens = drop tokens a.tokens }

-- The store begins with a copy of the first message, of this length.
pub record IsCopy (n : ℕ) (bytes store : List ℕ) : Type 0 where
  pub told : n ≡ told_size bytes
  pub same : take n store ≡ take n bytes

-- the header and as many bytes as it says are there
pub record HasParts (bytes : List ℕ) (h : Header) : Type 0 where
  pub header : 8 ≤ h.size
  pub there : h.size ≤ length bytes
  pub parts : take h.size bytes ≡ header_bytes h ++ take (h.size - 8) (drop 8 bytes)

-- The result for the first message: its header, the bytes after the header, and how many tokens
-- wait; a bad size; or nothing if more bytes are needed.
abbrev pub TellsFront : Arrived → Result (Option Frame) BadSize → Type 0
TellsFront a (Ok None) = in_front a ≡ More
TellsFront a (Ok (Some f)) =
    (in_front a ≡ Whole f.header.size)
    × (take f.header.size a.bytes ≡ header_bytes f.header ++ f.body.now)
    × (f.tokens ≡ length a.tokens)
TellsFront a (Err e) = in_front a ≡ Bad e.size

-- how large the two queues of an end may be; its inbox can hold the longest message
pub record AreSizes (sizes : Sizes) : Type 0 where
  pub out_bytes : sizes.out_bytes ≤ max_queue_bytes
  pub out_tokens : sizes.out_tokens ≤ max_queue_tokens
  pub in_bytes_low : sizes.limit.bytes ≤ sizes.in_bytes
  pub in_bytes : sizes.in_bytes ≤ max_queue_bytes
  pub in_tokens_low : min_inbox_tokens ≤ sizes.in_tokens
  pub in_tokens : sizes.in_tokens ≤ max_queue_tokens

-- The tokens that an inbox was fed since it was new, and those that it gave out, with a message or
-- without one.
pub data Gives : List ℕ → List ℕ → Arrived → Type 0 where
  starts : {bytes tokens : ℕ} {limit : Limit} → Gives [] [] (nothing_arrived bytes tokens limit)
  feeds : {fed given : List ℕ} {a : Arrived} (bytes tokens : List ℕ) → Gives fed given a
      → Gives (fed ++ tokens) given (with_more a bytes tokens)
  passes : {fed given : List ℕ} {a : Arrived} (bytes tokens : ℕ) → Gives fed given a
      → Gives fed (given ++ (without_first a bytes tokens).last_tokens)
      (without_first a bytes tokens)
  takes : {fed given : List ℕ} {a : Arrived} (tokens : ℕ) → Gives fed given a
      → Gives fed (given ++ take tokens a.tokens) (without_tokens a tokens)
