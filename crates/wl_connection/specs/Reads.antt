-- How either end reads a stream that arrives in any pieces.
use Rattle.std.specs.Prelude.{◌≡◌, ◌≢◌, ◌⊎◌, ℕ, ◌<◌, Bool, true, false, List, [], ◌∷◌, length, map}
use Rattle.std.specs.Prelude.{take}
use Rattle.std.specs.Prelude.{drop, Option, Some, None}
use Rattle.std.specs.declared.result.Result.{Result}
use Rattle.std.specs.declared.result.Result.TheVariants.{Ok, Err}
use Rattle.wl_message.specs.Arrived.{free_tokens}
use Rattle.wl_message.specs.InStep.{Part, part_bytes, part_tokens}
use Rattle.wl_objects.specs.declared.error.Fault.{Fault}
use Rattle.wl_objects.specs.declared.error.NextError.{NextError}
use Rattle.wl_objects.specs.declared.error.NextError.TheVariants as errors
use Rattle.wl_connection.specs.declared.streams.ReadAll.{ReadAll}
use Rattle.wl_connection.specs.Core.{Core, with_arrived, no_room}
use Rattle.wl_connection.specs.Streams.{IsTaken, taken_bytes, taken_tokens, NoneFits}

-- the result of a read: a report, nothing if no whole message waits, or why none can be read
abbrev pub Answer : Type 0 → Type 0
Answer R = Result (Option R) NextError

-- How an end reads: what `next_owned` returns and leaves if memory is not refused, and after which
-- report nothing more is read.
pub record Reading (S R : Type 0) : Type 0 where
  pub core : S → Core
  pub with_core : S → Core → S
  pub answer : S → Answer R
  pub after : S → S
  pub is_last : R → Bool

abbrev pub reading_of : {S R : Type 0} → (S → Core) → (S → Core → S)
    → (S → Answer R) → (S → S) → (R → Bool) → Reading S R
reading_of core with_core answer after is_last =
    record { core = core; with_core = with_core; answer = answer; after = after; is_last = is_last }

-- replacing the core leaves the rest of an end unchanged
pub record IsCoreOf {S : Type 0} (core : S → Core) (with_core : S → Core → S) : Type 0 where
  pub kept : (state : S) → with_core state (core state) ≡ state
  pub new : (state : S) (c : Core) → core (with_core state c) ≡ c
  pub again : (state : S) (c d : Core) → with_core (with_core state c) d ≡ with_core state d

-- the end after more has come in
abbrev pub with_arrivals : {S R : Type 0} → Reading S R → S → List ℕ → List ℕ → S
with_arrivals e state bytes tokens = e.with_core state (with_arrived (e.core state) bytes tokens)

-- All that waits is read: these are the reports of the messages, in order, why the reading stopped,
-- if it did, and the state left. Without a stop and without a last report, no whole message and no
-- bad header is left. At a server whose outbox has no room for a delete_id, the request stays.
pub data Reads {S R : Type 0} (e : Reading S R) : S → List R → Option NextError → S → Type 0 where
  none : {state : S} → e.answer state ≡ Ok None → Reads e state [] None state
  fault : {state : S} {what : Fault} {offset : ℕ} → e.answer state ≡ Err (errors.Fault what offset)
      → Reads e state [] (Some (errors.Fault what offset)) (e.after state)
  full : {state : S} → e.answer state ≡ Err errors.OutFull
      → Reads e state [] (Some errors.OutFull) state
  last : {state : S} {report : R} → e.answer state ≡ Ok (Some report) → e.is_last report ≡ true
      → Reads e state (report ∷ []) None (e.after state)
  next : {state end : S} {report : R} {reports : List R} {stop : Option NextError}
      → e.answer state ≡ Ok (Some report) → e.is_last report ≡ false
      → Reads e (e.after state) reports stop end → Reads e state (report ∷ reports) stop end

-- Some of what waits is read, from the first message on: these are the reports, none of them a last
-- one, and the state left.
pub data ReadsSome {S R : Type 0} (e : Reading S R) : S → List R → S → Type 0 where
  nothing : {state : S} → ReadsSome e state [] state
  more : {state end : S} {report : R} {reports : List R}
      → e.answer state ≡ Ok (Some report) → e.is_last report ≡ false
      → ReadsSome e (e.after state) reports end → ReadsSome e state (report ∷ reports) end

-- the first message can be read and reported
abbrev pub HasReport : {S R : Type 0} → Reading S R → S → Type 0
HasReport {R = R} e state = (report : R) × (e.answer state ≡ Ok (Some report))

-- If memory was refused, some of what waits is read, up to a message that can be read; else all of
-- it.
abbrev pub ReadsUntil : {S R : Type 0} → Reading S R → S → List R → Option NextError → S → Type 0
ReadsUntil e state reports (Some errors.Memory) end =
    ReadsSome e state reports end × HasReport e end
ReadsUntil e state reports stop end = Reads e state reports stop end

-- All or part of the piece at this index, from 0, was taken.
abbrev pub IsBegun : ReadAll → ℕ → Type 0
IsBegun answer place =
    (place < answer.pieces) ⊎ ((place ≡ answer.pieces) × (answer.part ≢ no_room))

-- All that came before the piece at this index is read, without a stop and without a last report.
pub record IsReadBefore {S R : Type 0} (e : Reading S R) (state : S) (pieces : List Part)
    (place : ℕ) : Type 0 where
  pub reports : List R
  pub end : S
  pub reads : Reads e (with_arrivals e state (part_bytes (take place pieces))
      (part_tokens (take place pieces))) reports None end
  pub goes_on : (e.core end).failed ≡ false

-- Pieces are read as far as the result says, as if all that was taken of them had come at once.
-- Only a stop or a last report ends the reading before a piece whose tokens fit. Nothing is taken
-- of a piece before all that came earlier is read, and nothing if that ends in a stop or a last
-- report.
pub record ReadsAll {S R : Type 0} (e : Reading S R) (state : S) (pieces : List Part)
    (reports : List R) (answer : ReadAll) (end : S) : Type 0 where
  pub taken : IsTaken pieces answer.pieces answer.part
  pub reads : ReadsUntil e (with_arrivals e state (taken_bytes pieces answer.pieces answer.part)
      (taken_tokens pieces answer.pieces answer.part)) reports answer.stop end
  pub in_order : (place : ℕ) → IsBegun answer place → IsReadBefore e state pieces place
  pub to_the_end : answer.stop ≡ None → (e.core end).failed ≡ false
      → (answer.part ≡ no_room) × NoneFits (free_tokens (e.core end).inbox) pieces answer.pieces

-- what the reports after the first ones say
abbrev pub appended : {X R : Type 0} → (X → R) → List X → List X → List R
appended seen before after = map seen (drop (length before) after)

-- ---- one reading

-- A message is read; it would be read in the same way if more followed, which would stay.
pub record ReadsReport {S R : Type 0} (e : Reading S R) (state : S) (report : R) (end : S)
    : Type 0 where
  pub is : e.answer state ≡ Ok (Some report)
  pub leaves : end ≡ e.after state
  pub stays : (bytes tokens : List ℕ) → e.answer (with_arrivals e state bytes tokens)
      ≡ Ok (Some report)
  pub leaves_more : (bytes tokens : List ℕ)
      → e.after (with_arrivals e state bytes tokens) ≡ with_arrivals e end bytes tokens
  pub fewer : length (e.core end).inbox.bytes < length (e.core state).inbox.bytes
  pub ends : (e.core end).failed ≡ e.is_last report

-- Nothing is left to read: less waits than the longest message has.
pub record ReadsNothing {S R : Type 0} (e : Reading S R) (state : S) : Type 0 where
  pub is : e.answer state ≡ Ok None
  pub sound : (e.core state).failed ≡ false
  pub short : length (e.core state).inbox.bytes < (e.core state).inbox.limit.bytes

-- What one read returns and leaves at an end that has not failed.
abbrev pub ReadsNext : {S R X : Type 0} → Reading S R → (X → R) → S → Answer X → S → Type 0
ReadsNext e seen state (Ok (Some report)) end = ReadsReport e state (seen report) end
ReadsNext e seen state (Ok None) end = (end ≡ state) × ReadsNothing e state
ReadsNext e seen state (Err why) end = ReadsUntil e state [] (Some why) end

-- ---- the parts of a reading

-- Some of what waits is read; it would be read in the same way if more followed, which would stay.
abbrev pub ReadsOn : {S R : Type 0} → Reading S R → S → List R → S → Type 0
ReadsOn e state reports end = (bytes tokens : List ℕ)
    → ReadsSome e (with_arrivals e state bytes tokens) reports (with_arrivals e end bytes tokens)

-- What waits is read: all of it, with nothing left to read; or up to a stop; or up to a last
-- report, with no stop.
abbrev pub WaitingIsRead : {S R X : Type 0} → Reading S R → S → List R → Result X (Option NextError)
    → S → Type 0
WaitingIsRead e state reports (Ok _) end = ReadsOn e state reports end × ReadsNothing e end
WaitingIsRead e state reports (Err stop) end =
    ReadsUntil e state reports stop end × (stop ≡ None → (e.core end).failed ≡ true)

-- A piece whose tokens fit is read: it is taken whole; or in part, if the reading stopped.
abbrev pub PieceIsRead : {S R X : Type 0} → Reading S R → S → Part → List R → Result X ReadAll → S
    → Type 0
PieceIsRead e state piece reports (Ok _) end =
    ReadsOn e (with_arrivals e state piece.bytes piece.tokens) reports end
    × ((e.core end).failed ≡ false)
PieceIsRead e state piece reports (Err ended) end =
    ReadsUntil e
    (with_arrivals e state (take ended.part.bytes piece.bytes)
    (take ended.part.tokens piece.tokens))
    reports ended.stop end
    × (ended.stop ≡ None → (e.core end).failed ≡ true)
    × (ended.part.bytes < length piece.bytes) × (ended.part.tokens ≡ length piece.tokens)
    × (ended.pieces ≡ 0)
