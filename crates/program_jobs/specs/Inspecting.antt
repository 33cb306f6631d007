-- Judging a recording as waywire-inspect judges a session: each message is judged, and followed.
use Rattle.wl_sigs.specs.Side.TheVariants.{Event}
use Rattle.wl_object_map.specs.declared.object.Entry.{Entry}
use Rattle.wl_objects.specs.Messages.{is_error}
use Rattle.std.specs.Prelude.{◌≡◌, ℕ, ◌+◌, Bool, true, false, ◌&&◌, nat_eq, nat_le, List, [], ◌∷◌}
use Rattle.std.specs.Prelude.{◌++◌, drop, if◌then◌else◌, Option, Some, None}
use Rattle.std.specs.declared.alloc.Global.{Global}
use Rattle.std.specs.declared.result.Result.{Result}
use Rattle.std.specs.declared.result.Result.TheVariants.{Ok, Err}
use Rattle.wl_wire.specs.declared.kind.ArgFault.{ArgFault}
use Rattle.wl_wire.specs.declared.kind.Kind.TheVariants as kinds
use Rattle.wl_wire.specs.Argument.{Argument, Uint}
use Rattle.wl_wire.specs.Reading.{reading}
use Rattle.wl_sigs.specs.Tables.{Interface}
use Rattle.wl_message.specs.Cut.{is_size}
use Rattle.wl_recording.specs.declared.piece.Direction.{Direction}
use Rattle.wl_recording.specs.declared.piece.Direction.TheVariants.{ToServer, ToClient}
use Rattle.wl_recording.specs.Piece.{Piece}
use Rattle.wl_check.specs.declared.following.Followed.{Followed}
use Rattle.wl_check.specs.declared.following.Follower.{Follower}
use Rattle.wl_check.specs.Following.{IsFollowed, IsNewFollower, WasFed, WentPast, place_or_none}
use Rattle.wl_check.specs.Following.{other, size_ahead}
use Rattle.wl_check.specs.Held.{Held, held_version}
use Rattle.wl_check.specs.Inspected.{HasPassed}
use Rattle.wl_check.specs.Session.{messages, session_of}
use Rattle.wl_check.specs.Trace.{lasting}
use Rattle.program_jobs.specs.declared.inspecting.Inspection.{Inspection}
use Rattle.program_jobs.specs.declared.inspecting.Noted.{Noted}
use Rattle.program_jobs.specs.Hint.{NamedBind, bound_at}

-- ---- whether what a bind names was announced

abbrev pub uint_by : Argument → Option ℕ
uint_by (Uint number) = Some number
uint_by _ = None

abbrev pub uint_in : Result (Argument × ℕ) ArgFault → Option ℕ
uint_in (Ok found) = uint_by found.0
uint_in (Err fault) = None

-- the name of the global in a bind with these bytes: the word after its header
abbrev pub global_named : List ℕ → Option ℕ
global_named bytes = uint_in (reading kinds.Uint (drop 8 bytes))

-- at least 1 and at most this version
abbrev pub is_within : ℕ → ℕ → Bool
is_within version most = nat_le 1 version && nat_le version most

-- A global of this name was announced with this interface, and in this version or a later one. All
-- interfaces that the tables lack count as one.
abbrev pub is_announced_as : List Interface → Held → ℕ → NamedBind → Bool
is_announced_as tables held name bound =
    is_within bound.version (held_version held (name, (place_or_none tables bound.interface).0))

abbrev pub are_announced : List Interface → Held → Option ℕ → Option NamedBind → Bool
are_announced tables held (Some name) (Some bound) = is_announced_as tables held name bound
are_announced tables held _ _ = false

-- the same for what a bind with these bytes names
abbrev pub binds_announced : List Interface → Held → List ℕ → Bool
binds_announced tables held bytes =
    are_announced tables held (global_named bytes) (bound_at bytes 0)

-- ---- what is noted

-- before the first message
abbrev pub noted_none : Noted
noted_none = record { requests = 0; events = 0; is_announced = false; has_error = false }

-- this is the number of a message in its direction
abbrev pub with_count : Direction → ℕ → Noted → Noted
with_count ToServer index noted = record noted { requests = index }
with_count ToClient index noted = record noted { events = index }

-- a message with this target is a wl_display.error, even if it cannot be read
abbrev pub is_error_of : Direction → Option Entry → ℕ → Bool
is_error_of ToClient (Some entry) opcode = is_error Event entry.iface opcode
is_error_of _ _ opcode = false

-- After one more message, before which this was held; so many were judged. A message with a bad
-- size does not count. The first message that was not judged breaks a rule, unless the session has
-- ended.
abbrev pub noted_after : ℕ → List Interface → ℕ → Direction → Held → Followed → Noted → Noted
noted_after limit tables judged direction held message noted =
    record (if is_size limit message.header.size then with_count direction message.index noted
    else noted) {
      is_announced = if nat_eq message.number (judged + 1)
          then binds_announced tables held message.bytes.now else noted.is_announced;
      has_error = is_error_of direction message.target message.header.opcode;
    }

-- ---- the messages of a recording, followed in their order

abbrev pub HasNoMore : Follower Global → Type 0
HasNoMore follower = (direction : Direction) → size_ahead follower direction ≡ None

-- A follower to which these pieces came, one by one: it passed over the messages that a piece
-- completes before the next piece came, and over none after a wl_display.error.
pub data HasFollowed (limit : ℕ) (tables : List Interface)
    : List Piece → Noted → Follower Global → Type 0 where
  begun : (follower : Follower Global) → IsNewFollower tables limit follower
      → HasFollowed limit tables [] noted_none follower
  fed : (pieces : List Piece) (piece : Piece) (noted : Noted) (before after : Follower Global)
      → HasFollowed limit tables pieces noted before → noted.has_error ≡ false → HasNoMore before
      → WasFed piece.direction piece.bytes before after
      → HasFollowed limit tables (pieces ++ piece ∷ []) noted after
  past : (pieces : List Piece) (direction : Direction) (message : Followed) (noted : Noted)
      (before after : Follower Global)
      → HasFollowed limit tables pieces noted before → noted.has_error ≡ false
      → IsFollowed before direction message → WentPast direction before after
      → HasFollowed limit tables pieces (noted_after limit tables
      (lasting (messages tables (session_of limit pieces))) direction before.held message noted)
      after
  over : (pieces : List Piece) (piece : Piece) (noted : Noted) (follower : Follower Global)
      → HasFollowed limit tables pieces noted follower → noted.has_error ≡ true
      → HasFollowed limit tables (pieces ++ piece ∷ []) noted follower

-- This is noted of all messages in these pieces.
pub record IsNoted (limit : ℕ) (tables : List Interface) (pieces : List Piece) (noted : Noted)
    : Type 0 where
  pub follower : Follower Global
  pub followed : HasFollowed limit tables pieces noted follower
  pub whole : noted.has_error ≡ false → HasNoMore follower

-- ---- steps

-- These pieces were judged, and this is the follower's part so far.
pub record HasInspected (limit : ℕ) (tables : List Interface) (pieces : List Piece)
    (i : Inspection) : Type 0 where
  pub limit_is : i.limit.bytes ≡ limit
  pub tables_are : i.tables.now ≡ tables
  pub passed : HasPassed limit tables pieces i.inspector
  pub followed : HasFollowed limit tables pieces i.noted i.follower

-- all messages were passed over, unless the session has ended
pub record IsInspecting (limit : ℕ) (tables : List Interface) (pieces : List Piece)
    (i : Inspection) : Type 0 where
  pub inspected : HasInspected limit tables pieces i
  pub whole : i.noted.has_error ≡ false → HasNoMore i.follower

-- some of this direction may not have been
pub record IsFollowing (limit : ℕ) (tables : List Interface) (pieces : List Piece)
    (direction : Direction) (i : Inspection) : Type 0 where
  pub inspected : HasInspected limit tables pieces i
  pub goes_on : i.noted.has_error ≡ false
  pub none : size_ahead i.follower (other direction) ≡ None

-- whether there may be another message
abbrev pub MayFollow : Bool → ℕ → List Interface → List Piece → Direction → Inspection → Type 0
MayFollow true limit tables pieces direction i = IsFollowing limit tables pieces direction i
MayFollow false limit tables pieces direction i = IsInspecting limit tables pieces i
