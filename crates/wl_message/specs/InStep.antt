-- Pieces of a stream whose tokens come in time.
use Rattle.std.specs.Prelude.{◌≡◌, ℕ, ◌+◌, ◌<◌, ◌≤◌, ◌⊎◌, List, [], ◌∷◌, ◌++◌, length, take}
use Rattle.wl_message.specs.declared.amounts.Piece.{Piece}
use Rattle.wl_message.specs.declared.amounts.Amounts.{Amounts}
use Rattle.wl_message.specs.declared.limit.Limit.{Limit}
use Rattle.wl_message.specs.Outgoing.{QueuedMessage, Outgoing, all_bytes, all_tokens, waiting_bytes}
use Rattle.wl_message.specs.Outgoing.{waiting_tokens, newly_begun, Goes, after_taking, no_messages}
use Rattle.wl_message.specs.Outgoing.{with_message, with_error}

-- what came, or went, at one time
pub record Part : Type 0 where
  pub bytes : List ℕ
  pub tokens : List ℕ

abbrev pub part : Piece → Part
part p = record { bytes = p.bytes.now; tokens = p.tokens.now }

abbrev pub part_bytes : List Part → List ℕ
part_bytes [] = []
part_bytes (p ∷ ps) = p.bytes ++ part_bytes ps

abbrev pub part_tokens : List Part → List ℕ
part_tokens [] = []
part_tokens (p ∷ ps) = p.tokens ++ part_tokens ps

-- how many bytes a message has, and how many tokens it takes
pub record Need : Type 0 where
  pub size : ℕ
  pub tokens : ℕ

abbrev pub need : QueuedMessage → Need
need m = record { size = length m.bytes; tokens = length m.tokens }

-- the bytes of all these messages
abbrev pub total_size : List Need → ℕ
total_size [] = 0
total_size (n ∷ ns) = n.size + total_size ns

-- the tokens that all these messages take
abbrev pub total_need : List Need → ℕ
total_need [] = 0
total_need (n ∷ ns) = n.tokens + total_need ns

-- The pieces bring the messages in step: for each message, when the piece with its first byte has
-- come, all tokens of that message and of the messages before it have come too, or no later piece
-- has a token.
abbrev pub InStep : List Need → List Part → Type 0
InStep needs parts =
    (before : List Need) (this : Need) (after : List Need) → needs ≡ before ++ this ∷ after
    → (earlier : List Part) (here : Part) (later : List Part) → parts ≡ earlier ++ here ∷ later
    → length (part_bytes earlier) ≤ total_size before
    → total_size before < length (part_bytes earlier) + length here.bytes
    → (total_need before + this.tokens ≤ length (part_tokens earlier) + length here.tokens)
    ⊎ (part_tokens later ≡ [])

-- what was taken out of an outbox
abbrev pub part_taken : Outgoing → Amounts → Part
part_taken o taken = record {
  bytes = take taken.bytes (waiting_bytes o);
  tokens = take taken.tokens (waiting_tokens o);
}

-- What is taken, from the front: the messages newly begun leave those not begun, with their tokens;
-- the bytes come from what was left and from these messages.
pub record TakesFromFront (o : Outgoing) (taken : Amounts) : Type 0 where
  pub rest : o.messages ≡ newly_begun o taken.bytes ++ (after_taking o taken.bytes).messages
  pub gone : o.left ++ all_bytes (newly_begun o taken.bytes)
      ≡ (part_taken o taken).bytes ++ (after_taking o taken.bytes).left
  pub with_tokens : (part_taken o taken).tokens ≡ all_tokens (newly_begun o taken.bytes)

-- The pieces so far contain the begun messages and their tokens, except the bytes left of the last
-- one.
pub record HaveCarried (sent : List QueuedMessage) (left : List ℕ) (parts : List Part) : Type 0
  where
    pub bytes : part_bytes parts ++ left ≡ all_bytes sent
    pub tokens : part_tokens parts ≡ all_tokens sent

-- What an outbox gave since it was new: the messages that were begun, and the pieces taken one
-- after another; messages may be added in between.
pub data Gave : List QueuedMessage → List Part → Outgoing → Type 0 where
  starts : {bytes tokens : ℕ} {limit : Limit} → Gave [] [] (no_messages bytes tokens limit)
  adds : {sent : List QueuedMessage} {parts : List Part} {o : Outgoing} (bytes tokens : List ℕ)
      → Gave sent parts o → Gave sent parts (with_message o bytes tokens)
  adds_error : {sent : List QueuedMessage} {parts : List Part} {o : Outgoing} (bytes : List ℕ)
      → Gave sent parts o → Gave sent parts (with_error o bytes)
  takes : {sent : List QueuedMessage} {parts : List Part} {o : Outgoing} {b t : ℕ} {taken : Amounts}
      → Goes o b t taken → Gave sent parts o
      → Gave (sent ++ newly_begun o taken.bytes) (parts ++ part_taken o taken ∷ [])
      (after_taking o taken.bytes)
