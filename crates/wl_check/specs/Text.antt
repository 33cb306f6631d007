-- What is held, open, used and advertised at a place of a session, in words about the messages
-- before it.
use Rattle.std.specs.Prelude.{◌≡◌, ◌≢◌, ℕ, suc, ◌<◌, ◌≤◌, true, false, List, [], ◌∷◌, ◌++◌}
use Rattle.std.specs.Prelude.{if◌then◌else◌, length, slice_get, drop, take, Some}
use Rattle.std.specs.declared.result.Result.TheVariants.{Ok}
use Rattle.std.specs.List.{filter, AllByRecursion}
use Rattle.wl_message.specs.Cut.{is_size, front, Bad}
use Rattle.wl_object_map.specs.Ranges.{is_of_server}
use Rattle.wl_check.specs.declared.changes.AdvertisedGlobal.{AdvertisedGlobal}
use Rattle.wl_recording.specs.declared.piece.Direction.{Direction}
use Rattle.wl_check.specs.declared.frames.FramedMessage.{FramedMessage}
use Rattle.wl_check.specs.declared.changes.MessageChanges.{MessageChanges}
use Rattle.wl_recording.specs.Piece.{Piece}
use Rattle.wl_check.specs.Merged.{Span, span, span_finish, same_direction, stream_of, piece_tokens}
use Rattle.wl_check.specs.Places.{makes_id, deletes_id, destroys_id}
use Rattle.wl_check.specs.Changes.{Call}
use Rattle.wl_check.specs.Session.{ArePassed, Judged, ends_session}

-- The object made at a place (its birth) is held at a later place: no delete_id that frees its id
-- comes in between, and, if the id is in the server's range, no message makes the id again in
-- between.
pub record StaysHeld (session : ℕ → MessageChanges) (place birth id : ℕ) : Type 0 where
  pub before : birth < place
  pub made : makes_id (session birth) id ≡ true
  pub kept : (between : ℕ) → birth < between → between < place
      → deletes_id (session between) id ≡ false
  pub latest : is_of_server id ≡ true → (between : ℕ) → birth < between → between < place
      → makes_id (session between) id ≡ false

-- It is open if no message in between destroys it.
abbrev pub StaysOpen : (ℕ → MessageChanges) → ℕ → ℕ → ℕ → Type 0
StaysOpen session place birth id =
    (between : ℕ) → birth < between → between < place → destroys_id (session between) id ≡ false

-- an id was used before a place
pub record WasUsed (session : ℕ → MessageChanges) (place id : ℕ) : Type 0 where
  pub birth : ℕ
  pub before : birth < place
  pub made : makes_id (session birth) id ≡ true

-- one event before a place advertised this name, this interface and at least this version
pub record WasAdvertised (session : ℕ → MessageChanges) (place name iface version : ℕ) : Type 0
  where
    pub event : ℕ
    pub before : event < place
    pub global : AdvertisedGlobal
    pub is : (session event).advertised ≡ Some global
    pub name_is : global.name ≡ name
    pub iface_is : global.iface.0 ≡ iface
    pub version_is : version ≤ global.version

-- the bytes of a message
abbrev pub part_of : List ℕ → Span → List ℕ
part_of stream m = take m.size (drop m.start stream)

-- the spans without a bad size
abbrev pub sound : ℕ → List Span → List Span
sound limit spans = filter (λ (m : Span). is_size limit m.size) spans

abbrev pub AreSound : ℕ → List Span → Type 0
AreSound limit spans = AllByRecursion (λ (m : Span). is_size limit m.size ≡ true) spans

-- A stream that leaves this rest has these spans: those of its messages, then a bad size if the
-- rest begins with one.
pub data EndsWith (limit : ℕ) (stream rest : List ℕ) (spans : List Span) : Type 0 where
  messages : AreSound limit spans → ((size : ℕ) → front limit rest ≢ Bad size)
      → EndsWith limit stream rest spans
  bad_size : (before : List Span) (place size : ℕ) → spans ≡ before ++ span place size ∷ []
      → AreSound limit before → drop place stream ≡ rest → front limit rest ≡ Bad size
      → EndsWith limit stream rest spans

-- each of these messages ends after the first `before` bytes of its direction, and within the first
-- `after`
abbrev pub BringsSpans : ℕ → ℕ → ℕ → List Span → Type 0
BringsSpans limit before after spans =
    AllByRecursion
    (λ (m : Span). (before < span_finish limit m) × (span_finish limit m ≤ after)) spans

-- a message of the session with no wl_display.error before it
pub record IsExamined (messages : List Judged) (k : ℕ) : Type 0 where
  pub within : k < length messages
  pub goes_on : (earlier : ℕ) (message : Judged) → earlier < k
      → slice_get messages earlier ≡ Some message → ends_session message ≡ false

-- A message with a line in a trace: it and each message before it keep the rules, and no message
-- before it is wl_display.error.
pub record IsPrinted (messages : List Judged) (k : ℕ) : Type 0 where
  pub call : Call
  pub is : slice_get messages k ≡ Some (Ok call)
  pub passed : ArePassed messages k

-- the messages of one direction in a merged list, in order
abbrev pub spans_in : Direction → List FramedMessage → List Span
spans_in direction [] = []
spans_in direction (frame ∷ frames) =
    (if same_direction frame.direction direction then span frame.start frame.size ∷ [] else [])
    ++ spans_in direction frames

-- A message belongs to the piece of its direction that brings its last byte, and counts the tokens
-- that its direction brought with the pieces up to that one.
pub record ComesWith (limit : ℕ) (pieces : List Piece) (k : ℕ) (frame : FramedMessage) : Type 0
  where
    pub piece : Piece
    pub there : slice_get pieces k ≡ Some piece
    pub direction : piece.direction ≡ frame.direction
    pub behind : length (stream_of frame.direction (take k pieces))
        < span_finish limit (span frame.start frame.size)
    pub within : span_finish limit (span frame.start frame.size)
        ≤ length (stream_of frame.direction (take (suc k) pieces))
    pub tokens : frame.tokens ≡ piece_tokens frame.direction (take (suc k) pieces)

-- These messages belong to the pieces in order, from one piece on and before another.
abbrev pub ComeInOrder : ℕ → List Piece → ℕ → ℕ → List FramedMessage → Type 0
ComeInOrder limit pieces from to [] = Unit {0}
ComeInOrder limit pieces from to (frame ∷ frames) =
    (k : ℕ) × (from ≤ k) × (k < to) × ComesWith limit pieces k frame
    × ComeInOrder limit pieces k to frames
