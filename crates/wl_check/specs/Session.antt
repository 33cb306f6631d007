-- Lawful sessions, and the verdict of a checker.
use Rattle.std.specs.Prelude.{◌≡◌, ℕ, zero, suc, ◌+◌, ◌-◌, ◌<◌, ◌≤◌, Bool, true, false, nat_lt}
use Rattle.std.specs.Prelude.{List, [], ◌∷◌, ◌++◌, length, take, slice_get, if◌then◌else◌, Option}
use Rattle.std.specs.Prelude.{Some, None, count_by}
use Rattle.std.specs.declared.result.Result.{Result}
use Rattle.std.specs.declared.result.Result.TheVariants.{Ok, Err}
use Rattle.wl_sigs.specs.Tables.{Interface}
use Rattle.wl_message.specs.Cut.{is_size}
use Rattle.wl_objects.specs.declared.error.Fault.{Fault}
use Rattle.wl_objects.specs.Messages.{is_error}
use Rattle.wl_recording.specs.declared.piece.Direction.{Direction}
use Rattle.wl_recording.specs.declared.piece.Direction.TheVariants.{ToServer, ToClient}
use Rattle.wl_recording.specs.Piece.{Piece}
use Rattle.wl_check.specs.declared.changes.MessageChanges.{MessageChanges}
use Rattle.wl_check.specs.declared.frames.FramedMessage.{FramedMessage}
use Rattle.wl_check.specs.declared.verdict.Verdict.{Verdict}
use Rattle.wl_check.specs.declared.verdict.Verdict.TheVariants.{Lawful, Broken}
use Rattle.wl_check.specs.Merged.{merged, stream_of, same_direction}
use Rattle.wl_check.specs.Changes.{Call, changes, changes_nothing, beginning, side_of}
use Rattle.wl_check.specs.Places.{known}
use Rattle.wl_check.specs.Rules.{judged}

-- the merged list of a recording, the bytes of each direction, and how many bytes a message may
-- have
pub record Session : Type 0 where
  pub limit : ℕ
  pub frames : List FramedMessage
  pub streams : Direction → List ℕ

abbrev pub session_of : ℕ → List Piece → Session
session_of limit pieces = record {
  limit = limit;
  frames = merged limit pieces;
  streams = λ direction. stream_of direction pieces;
}

-- a message judged at its place: its meaning, or the first rule that it breaks
abbrev pub Judged : Type 0
Judged = Result Call Fault

abbrev pub changes_of : List Interface → Option Judged → MessageChanges
changes_of tables (Some (Ok call)) = changes tables call
changes_of tables _ = changes_nothing

-- The changes at each place. A message that breaks a rule changes nothing.
abbrev pub changes_at : List Interface → List Judged → ℕ → MessageChanges
changes_at tables messages zero = beginning
changes_at tables messages (suc k) = changes_of tables (slice_get messages k)

-- these messages, followed by those of the frames, each judged with what is known from the places
-- before it
unfoldable pub judged_after : ℕ → List Interface → (Direction → List ℕ) → List Judged
    → List FramedMessage
    → List Judged
judged_after limit tables streams earlier [] = earlier
judged_after limit tables streams earlier (frame ∷ frames) =
    judged_after limit tables streams
    (earlier ++ judged limit tables (known (changes_at tables earlier) (suc (length earlier)))
    (streams frame.direction) frame ∷ []) frames

-- the messages of a session
abbrev pub messages : List Interface → Session → List Judged
messages tables session = judged_after session.limit tables session.streams [] session.frames

-- wl_display.error
abbrev pub ends_session : Judged → Bool
ends_session (Err fault) = false
ends_session (Ok call) = is_error (side_of call.direction) call.received.entry.iface call.opcode

-- a message that was read and after which the session goes on
pub record Passed (ms : List Judged) (j : ℕ) : Type 0 where
  pub call : Call
  pub is : slice_get ms j ≡ Some (Ok call)
  pub goes_on : ends_session (Ok call) ≡ false

-- all of the first messages were read, and the session goes on
abbrev pub ArePassed : List Judged → ℕ → Type 0
ArePassed ms k = (j : ℕ) → j < k → Passed ms j

-- How many messages are examined: those up to and including the first wl_display.error.
abbrev pub examined : List Judged → ℕ
examined [] = 0
examined (message ∷ others) = if ends_session message then 1 else suc (examined others)

abbrev pub fault_of : Option Judged → Option Fault
fault_of (Some (Err fault)) = Some fault
fault_of _ = None

-- the first rule that a message breaks, if it is examined and breaks one; messages are numbered
-- from 0
abbrev pub breaks : List Interface → Session → ℕ → Option Fault
breaks tables session k =
    if nat_lt k (examined (messages tables session))
    then fault_of (slice_get (messages tables session) k) else None

-- the message at a place of the merged list breaks this rule, and no earlier-tested one
abbrev pub Breaks : List Interface → Session → ℕ → Fault → Type 0
Breaks tables session k fault = breaks tables session k ≡ Some fault

-- A lawful session: no message breaks a rule.
abbrev pub IsLawful : List Interface → Session → Type 0
IsLawful tables session = (k : ℕ) → breaks tables session k ≡ None

-- the messages that count
abbrev pub counted_frames : List Interface → Session → List FramedMessage
counted_frames tables session = take (examined (messages tables session)) session.frames

-- how many messages go in one direction
abbrev pub count_in : Direction → List FramedMessage → ℕ
count_in direction frames =
    count_by (λ (frame : FramedMessage). same_direction frame.direction direction) frames

-- where the last message of a direction ends; this place if there is none
abbrev pub end_after : Direction → ℕ → List FramedMessage → ℕ
end_after direction place [] = place
end_after direction place (frame ∷ frames) =
    end_after direction
    (if same_direction frame.direction direction then frame.start + frame.size else place) frames

-- how many bytes of a direction belong to no counted message
abbrev pub left_in : List Interface → Session → Direction → ℕ
left_in tables session direction =
    length (session.streams direction) - end_after direction 0 (counted_frames tables session)

-- The numbers in the verdict on a lawful session.
pub record IsCounted (tables : List Interface) (session : Session)
    (requests events left_to_server left_to_client : ℕ) : Type 0 where
  pub requests_are : requests ≡ count_in ToServer (counted_frames tables session)
  pub events_are : events ≡ count_in ToClient (counted_frames tables session)
  pub to_server : left_to_server ≡ left_in tables session ToServer
  pub to_client : left_to_client ≡ left_in tables session ToClient

-- This is the first message that breaks a rule: its direction, its number and position in that
-- direction, and the first rule that it breaks.
pub record IsFirstBrokenMessage (tables : List Interface) (session : Session)
    (direction : Direction)
    (index offset : ℕ) (fault : Fault) : Type 0 where
  pub place : ℕ
  pub frame : FramedMessage
  pub stands : slice_get session.frames place ≡ Some frame
  pub broken : Breaks tables session place fault
  pub least : (earlier : ℕ) → earlier < place → breaks tables session earlier ≡ None
  pub direction_is : direction ≡ frame.direction
  -- counted from 1
  pub index_is : index ≡ suc (count_in direction (take place session.frames))
  -- counted from 0
  pub offset_is : offset ≡ frame.start

-- The verdict of a checker: the numbers of a lawful session, or the first message that breaks a
-- rule.
abbrev pub IsVerdictOf : List Interface → Session → Verdict → Type 0
IsVerdictOf tables session (Lawful requests events left_to_server left_to_client) =
    IsLawful tables session × IsCounted tables session requests events left_to_server left_to_client
IsVerdictOf tables session (Broken direction index offset fault) =
    IsFirstBrokenMessage tables session direction index offset fault

abbrev pub SaysLawful : Verdict → Type 0
SaysLawful (Lawful requests events left_to_server left_to_client) = Unit {0}
SaysLawful (Broken direction index offset fault) = ⊥

-- A message is within its stream; if its size is bad, its header is.
pub record IsWithin (limit len : ℕ) (frame : FramedMessage) : Type 0 where
  pub header : frame.start + 8 ≤ len
  pub whole : is_size limit frame.size ≡ true → frame.start + frame.size ≤ len

abbrev pub AreWithin : Session → Type 0
AreWithin session = (k : ℕ) (frame : FramedMessage) → slice_get session.frames k ≡ Some frame
    → IsWithin session.limit (length (session.streams frame.direction)) frame
