-- How an outbox stores its messages: their bytes and tokens joined, and boundaries that separate
-- them.
use Rattle.std.specs.Prelude.{◌≡◌, ℕ, ◌+◌, ◌-◌, ◌*◌, ◌/◌, ◌%◌, ◌≤◌, Bool, false, nat_lt, ◌==◌}
use Rattle.std.specs.Prelude.{if◌then◌else◌, List, [], ◌∷◌, ◌++◌, length, take, drop}
use Rattle.std.specs.List.{AllByRecursion}
use Rattle.wl_message.specs.declared.limit.Limit.{Limit}
use Rattle.wl_message.specs.declared.boundaries.Leaving.{Leaving}
use Rattle.wl_message.specs.declared.boundaries.Boundary.{Boundary}
use Rattle.wl_message.specs.declared.boundaries.Reach.{Reach}
use Rattle.wl_message.specs.Bounds.{max_error_len}
use Rattle.wl_message.specs.Outgoing.{QueuedMessage, queued, Outgoing, all_bytes, all_tokens}
use Rattle.wl_message.specs.Outgoing.{newly_begun, waiting_bytes}

-- the boundary in a word, which is `len / 4 * 131072 + tokens`
abbrev pub boundary_in_word : ℕ → Boundary
boundary_in_word word = record { len = 4 * (word / 131072); tokens = word % 131072 }

-- bytes and tokens, separated into messages by the boundaries
abbrev pub parted : List Boundary → List ℕ → List ℕ → List QueuedMessage
parted [] bytes tokens = []
parted (k ∷ ks) bytes tokens =
    queued (take k.len bytes) (take k.tokens tokens)
    ∷ parted ks (drop k.len bytes) (drop k.tokens tokens)

abbrev pub lens : List Boundary → ℕ
lens [] = 0
lens (k ∷ ks) = k.len + lens ks

abbrev pub token_counts : List Boundary → ℕ
token_counts [] = 0
token_counts (k ∷ ks) = k.tokens + token_counts ks

-- an outbox's lists and numbers
pub record StoredMessages : Type 0 where
  pub bytes : List ℕ
  pub tokens : List ℕ
  pub boundaries : List Boundary
  pub left : ℕ
  pub capacity : ℕ
  pub token_capacity : ℕ
  pub limit : Limit
  pub has_error : Bool
  pub error_from : ℕ
  pub error_to : ℕ

abbrev pub outgoing : StoredMessages → Outgoing
outgoing h = record {
  left = take h.left h.bytes;
  messages = parted h.boundaries (drop h.left h.bytes) h.tokens;
  capacity = h.capacity;
  token_capacity = h.token_capacity;
  limit = h.limit;
  has_error = h.has_error;
  error_from = h.error_from;
  error_to = h.error_to;
}

-- the boundaries cover all bytes and tokens, the error event is among the bytes, and all other
-- bytes are within the capacity
pub record AreStored (h : StoredMessages) : Type 0 where
  pub bytes : h.left + lens h.boundaries ≡ length h.bytes
  pub tokens : token_counts h.boundaries ≡ length h.tokens
  pub each : AllByRecursion (λ k. 8 ≤ k.len) h.boundaries
  pub room : length h.bytes + h.error_from ≤ h.capacity + h.error_to
  pub token_room : length h.tokens ≤ h.token_capacity
  pub error_order : h.error_from ≤ h.error_to
  pub error_there : h.error_to ≤ length h.bytes
  pub error_len : h.error_to ≤ h.error_from + max_error_len
  pub no_error : h.has_error ≡ false → h.error_to ≤ h.error_from

-- How far messages reach into a room for b bytes and t tokens, after n others that began: the room
-- left, how many messages began, and how many bytes are left of the last one begun.
abbrev pub reach : ℕ → ℕ → ℕ → List Boundary → Reach
reach b t n [] = record { bytes = b; tokens = t; begun = n; left = 0 }
reach b t n (k ∷ ks) =
    if b == 0 then record { bytes = b; tokens = t; begun = n; left = 0 } else
    (if nat_lt t k.tokens then record { bytes = b; tokens = t; begun = n; left = 0 } else
    (if nat_lt b k.len
    then record { bytes = 0; tokens = t - k.tokens; begun = n + 1; left = k.len - b }
    else reach (b - k.len) (t - k.tokens) (n + 1) ks))

-- What leaves an outbox: the first of the waiting bytes, the tokens of the messages that they newly
-- begin, how many such messages there are, and how many bytes are then left of the last.
pub record IsLeaving (o : Outgoing) (l : Leaving) : Type 0 where
  pub there : l.taken.bytes ≤ length (waiting_bytes o)
  pub tokens : l.taken.tokens ≡ length (all_tokens (newly_begun o l.taken.bytes))
  pub begun : l.begun ≡ length (newly_begun o l.taken.bytes)
  pub left : l.left + l.taken.bytes ≡ length (o.left ++ all_bytes (newly_begun o l.taken.bytes))
