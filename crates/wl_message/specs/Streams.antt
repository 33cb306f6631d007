-- What is exchanged between the queues and a stream.
use Rattle.std.specs.Prelude.{◌≡◌, ℕ, ◌<◌, ◌≤◌, ◌↔◌, List, [], ◌∷◌, ◌++◌, length, take, Option}
use Rattle.std.specs.Prelude.{Result, Ok, Err, IsOk, codes}
use Rattle.std.specs.Fmt.{decimal}
use Rattle.std.specs.Io.KnownBytes.{Appends, Consumes, IsAtEnd, Keeps}
use Rattle.wl_message.specs.declared.streams.FlushError.{FlushError}
use Rattle.wl_message.specs.declared.streams.FlushError.TheVariants as flush_error
use Rattle.wl_message.specs.declared.streams.FillError.{FillError}
use Rattle.wl_message.specs.declared.streams.FillError.TheVariants as fill_error
use Rattle.wl_message.specs.Arrived.{Arrived, free_bytes, with_more}
use Rattle.wl_message.specs.Outgoing.{QueuedMessage, Outgoing, waiting_bytes, all_tokens}
use Rattle.wl_message.specs.Outgoing.{newly_begun, after_taking}

-- the first of these messages has tokens
abbrev pub FirstHasTokens : List QueuedMessage → Type 0
FirstHasTokens [] = ⊥
FirstHasTokens (m ∷ ms) = 0 < length m.tokens

-- the next message is not begun, and has tokens
abbrev pub NextHasTokens : Outgoing → Type 0
NextHasTokens o = (o.left ≡ []) × FirstHasTokens o.messages

-- how many bytes a flush wrote
abbrev pub bytes_written : Result ℕ FlushError → ℕ
bytes_written (Ok n) = n
bytes_written (Err (flush_error.Io n)) = n
bytes_written (Err (flush_error.NeedsTokens n)) = n

-- it stopped because the next message has tokens
abbrev pub IsNeedsTokens : Result ℕ FlushError → Type 0
IsNeedsTokens (Err (flush_error.NeedsTokens n)) = Unit {0}
IsNeedsTokens _ = ⊥

-- A flush of an outbox to a writer whose bytes may be unknown: the result, and the outbox and the
-- writer's bytes afterwards.
pub record Flushes (o : Outgoing) (held : Option (List ℕ)) (result : Result ℕ FlushError)
    (o' : Outgoing) (holds : Option (List ℕ)) : Type 0 where
  -- the bytes written are the first of the waiting bytes, and only they are gone
  pub there : bytes_written result ≤ length (waiting_bytes o)
  pub written : Appends held holds (take (bytes_written result) (waiting_bytes o))
  pub gone : o' ≡ after_taking o (bytes_written result)
  -- no token went with them
  pub without_tokens : all_tokens (newly_begun o (bytes_written result)) ≡ []
  -- the result is Ok if and only if no byte is left
  pub all : IsOk result ↔ (waiting_bytes o' ≡ [])
  -- the result is NeedsTokens if and only if the next message is not begun and has tokens
  pub needs_tokens : IsNeedsTokens result ↔ NextHasTokens o'

-- the most bytes that one fill reads
abbrev pub most_filled : ℕ
most_filled = 4096

-- A read gave the reader's next n bytes, for which there was room; n is 0 only at the end of the
-- input.
pub record TakesIn (a : Arrived) (had : Option (List ℕ)) (n : ℕ) (a' : Arrived)
    (has : Option (List ℕ)) : Type 0 where
  pub bytes : List ℕ
  pub count : length bytes ≡ n
  pub most : n ≤ most_filled
  pub room : n ≤ free_bytes a
  pub taken : Consumes had has bytes
  pub added : a' ≡ with_more a bytes []
  pub end : n ≡ 0 → IsAtEnd has

-- A fill of an inbox from a reader whose remaining bytes may be unknown: the result, and the inbox
-- and those bytes afterwards. The result is NoRoom if and only if no byte is free.
abbrev pub Fills : Arrived → Option (List ℕ) → Result ℕ FillError → Arrived → Option (List ℕ)
    → Type 0
Fills a had (Ok n) a' has = (0 < free_bytes a) × TakesIn a had n a' has
Fills a had (Err fill_error.Io) a' has = (0 < free_bytes a) × (a' ≡ a) × Keeps had has
Fills a had (Err fill_error.NoRoom) a' has = (free_bytes a ≡ 0) × (a' ≡ a) × Keeps had has

-- the text of the errors
abbrev pub flush_error_text : FlushError → List ℕ
flush_error_text (flush_error.Io n) = codes "writing failed after " ++ decimal n ++ codes " bytes"
flush_error_text (flush_error.NeedsTokens n) =
    codes "the next message needs its tokens, after " ++ decimal n ++ codes " bytes"

abbrev pub fill_error_text : FillError → List ℕ
fill_error_text fill_error.Io = codes "reading failed"
fill_error_text fill_error.NoRoom = codes "inbox is full"
