-- A stream has one reading, however it is cut into pieces, at either end.
use Rattle.std.specs.Prelude.{◌≡◌, ℕ, true, false, List, [], ◌∷◌, length, Option, Some}
use Rattle.std.specs.declared.result.Result.TheVariants.{Ok}
use Rattle.wl_sigs.specs.Side.{Side}
use Rattle.wl_message.specs.declared.amounts.Amounts.{Amounts}
use Rattle.wl_message.specs.InStep.{Part, Need, InStep, part_bytes, part_tokens}
use Rattle.wl_objects.specs.declared.error.NextError.{NextError}
use Rattle.wl_connection.specs.Streams.{BeginWith, FrontNeeds, IsTaken, taken_bytes, taken_tokens}
use Rattle.wl_connection.specs.Streams.{untaken, waiting_part}
use Rattle.wl_connection.specs.Reads.{Reading, with_arrivals, Reads, ReadsSome}

-- ---- pieces that come in step

-- What waits begins with messages that have these needs, and messages of this side come in. Each
-- message is read before the next one gets to the front.
pub data BeginsWithNeeds {S R : Type 0} (e : Reading S R) (side : Side) : S → List Need
    → Type 0 where
  here : {state : S} → BeginsWithNeeds e side state []
  ends : {state : S} {need : Need} → (e.core state).failed ≡ false
      → FrontNeeds (e.core state) side need
      → BeginsWithNeeds e side state (need ∷ [])
  goes_on : {state : S} {need : Need} {needs : List Need} {report : R}
      → e.answer state ≡ Ok (Some report) → FrontNeeds (e.core state) side need
      → BeginsWithNeeds e side (e.after state) needs → BeginsWithNeeds e side state (need ∷ needs)

-- the pieces bring in step the messages with which what waits begins
abbrev pub ComeInStep : {S R : Type 0} → Reading S R → Side → S → List Part → Type 0
ComeInStep e side state pieces =
    (needs : List Need) → BeginsWithNeeds e side state needs → InStep needs pieces

-- ---- laws of how an end reads

-- What waits is read in only one way. What is read is read in the same way if more follows, and
-- what follows stays.
pub record HasOneReading {S R : Type 0} (e : Reading S R) : Type 0 where
  pub reports : (state last end : S) (reports others : List R) (stop halt : Option NextError)
      → Reads e state reports stop last → Reads e state others halt end → reports ≡ others
  pub stop : (state last end : S) (reports others : List R) (stop halt : Option NextError)
      → Reads e state reports stop last → Reads e state others halt end → stop ≡ halt
  pub left : (state last end : S) (reports others : List R) (stop halt : Option NextError)
      → Reads e state reports stop last → Reads e state others halt end → last ≡ end
  pub stays : (state last : S) (reports : List R) (bytes tokens : List ℕ)
      → ReadsSome e state reports last
      → ReadsSome e (with_arrivals e state bytes tokens) reports (with_arrivals e last bytes tokens)

-- If pieces are in step, it does not matter how the stream is split. Up to a fault or a last
-- report, the same is read as if all pieces had come at once, and what was not taken of them
-- remains.
abbrev pub AnyCutReads : {S R : Type 0} → Reading S R → Side → Type 0
AnyCutReads {S = S} {R = R} e side =
    (state last : S) (pieces : List Part) (count : ℕ) (some : Amounts)
    (reports : List R) (stop : Option NextError) → IsTaken pieces count some
    → ComeInStep e side (with_arrivals e state (part_bytes pieces) (part_tokens pieces))
    (waiting_part (e.core state) ∷ pieces)
    → Reads e (with_arrivals e state (taken_bytes pieces count some)
    (taken_tokens pieces count some))
    reports stop last → (e.core last).failed ≡ true
    → Reads e (with_arrivals e state (part_bytes pieces) (part_tokens pieces)) reports stop
    (with_arrivals e last (part_bytes (untaken pieces count some))
    (part_tokens (untaken pieces count some)))

-- What is read is the front of what waits: as many whole messages as there are reports, cut by the
-- sizes in their headers; the rest remains.
abbrev pub ReadsWhole : {S R : Type 0} → Reading S R → Type 0
ReadsWhole {S = S} {R = R} e =
    (state last : S) (reports : List R) (stop : Option NextError) → Reads e state reports stop last
    → BeginWith (e.core state).inbox.limit.bytes (e.core state).inbox.bytes (length reports)
    (e.core last).inbox.bytes
