-- Pieces of a stream that arrive at an end.
use Rattle.std.specs.Prelude.{◌≡◌, ℕ, zero, suc, ◌<◌, ◌⊎◌, List, [], ◌∷◌, ◌++◌, length, take, drop}
use Rattle.std.specs.Prelude.{Some}
use Rattle.std.specs.List.{concat, AllByRecursion}
use Rattle.std.specs.declared.result.Result.TheVariants.{Ok}
use Rattle.wl_sigs.specs.Side.{Side}
use Rattle.wl_message.specs.declared.amounts.Amounts.{Amounts}
use Rattle.wl_message.specs.Cut.{IsMessage}
use Rattle.wl_message.specs.InStep.{Part, Need}
use Rattle.wl_connection.specs.Core.{Core, with_arrived, no_room}
use Rattle.wl_connection.specs.Receiving.{Found, found, takes}

-- what waits at an end, as one piece
abbrev pub waiting_part : Core → Part
waiting_part core = record { bytes = core.inbox.bytes; tokens = core.inbox.tokens }

-- the length in bytes of the message at the front, and how many tokens it takes
abbrev pub need_of : Found → Need
need_of f = record { size = f.size; tokens = takes f.message }

-- A message with this need is at the front: it is found there, or would be if more tokens waited.
pub record FrontNeeds (core : Core) (side : Side) (need : Need) : Type 0 where
  pub more : List ℕ
  pub message : Found
  pub there : found (with_arrived core [] more) side ≡ Ok (Some message)
  pub needed : need ≡ need_of message

-- ---- what was taken of pieces: some of them whole, and part of the next

-- Of the next piece, nothing was taken, or all of its tokens and not all of its bytes.
abbrev pub IsTaken : List Part → ℕ → Amounts → Type 0
IsTaken [] count some = (count ≡ 0) × (some ≡ no_room)
IsTaken (p ∷ ps) zero some =
    (some ≡ no_room) ⊎ ((some.bytes < length p.bytes) × (some.tokens ≡ length p.tokens))
IsTaken (p ∷ ps) (suc count) some = IsTaken ps count some

abbrev pub taken_bytes : List Part → ℕ → Amounts → List ℕ
taken_bytes [] count some = []
taken_bytes (p ∷ ps) zero some = take some.bytes p.bytes
taken_bytes (p ∷ ps) (suc count) some = p.bytes ++ taken_bytes ps count some

abbrev pub taken_tokens : List Part → ℕ → Amounts → List ℕ
taken_tokens [] count some = []
taken_tokens (p ∷ ps) zero some = take some.tokens p.tokens
taken_tokens (p ∷ ps) (suc count) some = p.tokens ++ taken_tokens ps count some

-- what was not taken
abbrev pub untaken : List Part → ℕ → Amounts → List Part
untaken [] count some = []
untaken (p ∷ ps) zero some =
    record { bytes = drop some.bytes p.bytes; tokens = drop some.tokens p.tokens } ∷ ps
untaken (p ∷ ps) (suc count) some = untaken ps count some

-- a piece with more appended
abbrev pub part_with_more : Part → List ℕ → List ℕ → Part
part_with_more p bytes tokens = record { bytes = p.bytes ++ bytes; tokens = p.tokens ++ tokens }

-- No piece is left, or not all tokens of the next one fit.
abbrev pub NoneFits : ℕ → List Part → ℕ → Type 0
NoneFits room [] count = Unit {0}
NoneFits room (p ∷ ps) zero = room < length p.tokens
NoneFits room (p ∷ ps) (suc count) = NoneFits room ps count

-- The bytes begin with this number of whole messages within a limit, by the sizes in their headers,
-- and this rest follows.
pub record BeginWith (limit : ℕ) (bytes : List ℕ) (count : ℕ) (rest : List ℕ) : Type 0 where
  pub messages : List (List ℕ)
  pub as_many : length messages ≡ count
  pub whole : AllByRecursion (IsMessage limit) messages
  pub joined : bytes ≡ concat messages ++ rest
