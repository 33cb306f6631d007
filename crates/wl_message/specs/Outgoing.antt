-- Messages that wait to go out, with their tokens.
use Rattle.std.specs.Prelude.{◌≡◌, ℕ, zero, suc, ◌+◌, ◌-◌, ◌<◌, ◌≤◌, Bool, true, false, ◌||◌}
use Rattle.std.specs.Prelude.{◌==◌, nat_lt, if◌then◌else◌, min, List, [], ◌∷◌, ◌++◌, length, take}
use Rattle.std.specs.Prelude.{drop}
use Rattle.wl_message.specs.declared.amounts.Amounts.{Amounts}
use Rattle.wl_message.specs.declared.limit.Limit.{Limit}

-- a message: its bytes, and the tokens that go with its first byte
pub record QueuedMessage : Type 0 where
  pub bytes : List ℕ
  pub tokens : List ℕ

abbrev pub queued : List ℕ → List ℕ → QueuedMessage
queued bytes tokens = record { bytes = bytes; tokens = tokens }

abbrev pub all_bytes : List QueuedMessage → List ℕ
all_bytes [] = []
all_bytes (m ∷ ms) = m.bytes ++ all_bytes ms

abbrev pub all_tokens : List QueuedMessage → List ℕ
all_tokens [] = []
all_tokens (m ∷ ms) = m.tokens ++ all_tokens ms

-- An outbox: the bytes left of the message that was begun last, whose tokens are gone; the messages
-- not begun; how many bytes and tokens of ordinary messages may wait; and how many bytes a message
-- may have. One error event may wait too, beyond these limits. Its bytes are those of the waiting
-- bytes from error_from up to error_to, counted from 0; if both are 0, none of it waits.
pub record Outgoing : Type 0 where
  pub left : List ℕ
  pub messages : List QueuedMessage
  pub capacity : ℕ
  pub token_capacity : ℕ
  pub limit : Limit
  pub has_error : Bool
  pub error_from : ℕ
  pub error_to : ℕ

-- nothing waits, and no error event was added
abbrev pub no_messages : ℕ → ℕ → Limit → Outgoing
no_messages bytes tokens limit = record {
  left = [];
  messages = [];
  capacity = bytes;
  token_capacity = tokens;
  limit = limit;
  has_error = false;
  error_from = 0;
  error_to = 0;
}

-- the bytes that wait, in order
abbrev pub waiting_bytes : Outgoing → List ℕ
waiting_bytes o = o.left ++ all_bytes o.messages

-- the tokens that wait, in order
abbrev pub waiting_tokens : Outgoing → List ℕ
waiting_tokens o = all_tokens o.messages

-- how many bytes of ordinary messages wait
abbrev pub ordinary_len : Outgoing → ℕ
ordinary_len o = length (waiting_bytes o) - (o.error_to - o.error_from)

-- how many bytes are free for ordinary messages
abbrev pub room_of : Outgoing → ℕ
room_of o = o.capacity - ordinary_len o

-- how many tokens are free
abbrev pub token_room_of : Outgoing → ℕ
token_room_of o = o.token_capacity - length (waiting_tokens o)

-- a message was added at the end
abbrev pub with_message : Outgoing → List ℕ → List ℕ → Outgoing
with_message o bytes tokens = record o { messages = o.messages ++ queued bytes tokens ∷ [] }

-- the error event, which has no tokens, was added at the end
abbrev pub with_error : Outgoing → List ℕ → Outgoing
with_error o bytes = record o {
  messages = o.messages ++ queued bytes [] ∷ [];
  has_error = true;
  error_from = length (waiting_bytes o);
  error_to = length (waiting_bytes o) + length bytes;
}

-- the messages that have a byte among the first n bytes
abbrev pub begun : ℕ → List QueuedMessage → List QueuedMessage
begun n [] = []
begun zero (m ∷ ms) = []
begun (suc n) (m ∷ ms) = m ∷ begun (suc n - length m.bytes) ms

-- the messages newly begun by the first n of the waiting bytes
abbrev pub newly_begun : Outgoing → ℕ → List QueuedMessage
newly_begun o n = begun (n - length o.left) o.messages

-- The first n of the waiting bytes may go if there is room for b bytes and t tokens.
pub record MayGo (o : Outgoing) (b t n : ℕ) : Type 0 where
  pub there : n ≤ length (waiting_bytes o)
  pub within : n ≤ b
  -- the messages newly begun have at most t tokens in total
  pub tokens_within : length (all_tokens (newly_begun o n)) ≤ t

-- What goes into a room for b bytes and t tokens: the longest front part of the waiting bytes that
-- may go, with exactly the tokens of the messages that it newly begins. These are the first of the
-- waiting tokens.
pub record Goes (o : Outgoing) (b t : ℕ) (taken : Amounts) : Type 0 where
  pub may : MayGo o b t taken.bytes
  pub longest : (n : ℕ) → MayGo o b t n → n ≤ taken.bytes
  pub with_tokens : taken.tokens ≡ length (all_tokens (newly_begun o taken.bytes))

-- how many bytes of these messages, none of them begun, go into a room for b bytes and t tokens
abbrev pub going : ℕ → ℕ → List QueuedMessage → ℕ
going b t [] = 0
going b t (m ∷ ms) =
    if b == 0 || nat_lt t (length m.tokens) then 0 else
    (if nat_lt b (length m.bytes) then b
    else length m.bytes + going (b - length m.bytes) (t - length m.tokens) ms)

-- how many of the waiting bytes go
abbrev pub going_bytes : Outgoing → ℕ → ℕ → ℕ
going_bytes o b t = min b (length o.left) + going (b - length o.left) t o.messages

-- what goes, computed
unfoldable pub goes : Outgoing → ℕ → ℕ → Amounts
goes o b t = record {
  bytes = going_bytes o b t;
  tokens = length (all_tokens (newly_begun o (going_bytes o b t)));
}

-- the outbox after the first n of the waiting bytes have gone, with the tokens of the messages
-- newly begun
abbrev pub after_taking : Outgoing → ℕ → Outgoing
after_taking o n = record o {
  left = drop n (o.left ++ all_bytes (newly_begun o n));
  messages = drop (length (newly_begun o n)) o.messages;
  error_from = o.error_from - n;
  error_to = o.error_to - n;
}

-- What can go at one time so that every token goes with the first byte, however many of the bytes
-- go: the most such bytes, and how many tokens go with them.
pub record Peeks (o : Outgoing) (bytes : List ℕ) (tokens : ℕ) : Type 0 where
  pub front : bytes ≡ take (length bytes) (waiting_bytes o)
  pub with_first : tokens ≡ length (all_tokens (newly_begun o 1))
  pub with_any : (n : ℕ) → 0 < n → n ≤ length bytes
      → length (all_tokens (newly_begun o n)) ≡ tokens
  pub longest : (n : ℕ) → n ≤ length (waiting_bytes o)
      → length (all_tokens (newly_begun o n)) ≤ tokens → n ≤ length bytes
