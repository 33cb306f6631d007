-- Messages that are followed without being judged: what each says by its target's signature, and
-- what an id names after it.
use Rattle.std.specs.Prelude.{◌≡◌, ℕ, ◌+◌, ◌-◌, Bool, false, not, ◌&&◌, ◌||◌, nat_eq, nat_le}
use Rattle.std.specs.Prelude.{nat_lt, is_some, if◌then◌else◌, List, [], ◌∷◌, ◌++◌, drop, take}
use Rattle.std.specs.Prelude.{length, Option, Some, None}
use Rattle.std.specs.Option.{option_map_or}
use Rattle.std.specs.declared.result.Result.{Result}
use Rattle.std.specs.declared.result.Result.TheVariants.{Ok, Err}
use Rattle.wl_wire.specs.declared.header.Header.{Header}
use Rattle.wl_wire.specs.declared.kind.Iface.{Iface}
use Rattle.wl_wire.specs.Argument.{Argument, Uint, Str}
use Rattle.wl_wire.specs.Word.{header_at}
use Rattle.wl_message.specs.Cut.{front, is_size}
use Rattle.wl_sigs.specs.Fixed.{display}
use Rattle.wl_sigs.specs.Tables.{Interface, max_args, place_of}
use Rattle.wl_object_map.specs.declared.object.Entry.{Entry}
use Rattle.wl_object_map.specs.declared.object.State.TheVariants.{Live}
use Rattle.wl_object_map.specs.Ranges.{first_server_id, is_of_server, max_server_id}
use Rattle.wl_object_map.specs.View.{max_ids}
use Rattle.wl_objects.specs.declared.error.Fault.{Fault}
use Rattle.wl_objects.specs.Reading.{Reader}
use Rattle.wl_objects.specs.Messages.{Received, new_id_of, received, waits_for_request}
use Rattle.wl_recording.specs.declared.piece.Direction.{Direction}
use Rattle.wl_recording.specs.declared.piece.Direction.TheVariants.{ToServer, ToClient}
use Rattle.wl_check.specs.declared.changes.AdvertisedGlobal.{AdvertisedGlobal}
use Rattle.wl_check.specs.declared.changes.MessageChanges.{MessageChanges}
use Rattle.wl_check.specs.declared.following.Followed.{Followed}
use Rattle.wl_check.specs.declared.following.Follower.{Follower}
use Rattle.wl_check.specs.Changes.{Call, changes, changes_nothing, destroyed_id, is_global, side_of}
use Rattle.wl_check.specs.FollowedBytes.{FollowedBytes, no_bytes}
use Rattle.wl_check.specs.Held.{Held, held_object, held_version}
use Rattle.wl_check.specs.Places.{advertised_after, object_after}
use Rattle.wl_check.specs.Seen.{size_of}

-- ---- which object an id names

-- Whether an id still names the object held with it, if the last message that could not be read is
-- at this place. In the client's range it does, until its delete_id. In the server's range that
-- message may have made another object with the id, unless the object was made after the message,
-- or is open and a request can end it.
abbrev pub is_certain : List Interface → ℕ → ℕ → Entry → Bool
is_certain tables unread id entry =
    not (is_of_server id) || nat_lt unread entry.birth || waits_for_request tables (Some entry)

abbrev pub if_certain : List Interface → ℕ → ℕ → Option Entry → Option Entry
if_certain tables unread id None = None
if_certain tables unread id (Some entry) =
    if is_certain tables unread id entry then Some entry else None

-- ---- how a message is read

-- An id that a message at this place may give to a new object of the client: from 1 to `place + 1`,
-- since each earlier message used at most one id.
abbrev pub may_be_made : ℕ → ℕ → Bool
may_be_made place id = not (nat_eq id 0) && nat_le (id - 1) place

-- the same for an object of the server
abbrev pub may_be_made_by_server : ℕ → ℕ → Bool
may_be_made_by_server place id = is_of_server id && nat_lt (id - first_server_id) place

-- What the reader of a message at this place knows. It does not ask whether a new id is free.
abbrev pub follower : List Interface → Held → ℕ → ℕ → Reader
follower tables held unread place = record {
  object = λ id. if_certain tables unread id (held_object held id);
  new_id = λ id. new_id_of (may_be_made place id) (nat_le id max_ids);
  new_server_id = λ id. new_id_of (may_be_made_by_server place id) (nat_le id max_server_id);
  birth = 0;
  forgives = false;
}

abbrev pub read_as_call : Direction → ℕ → Result Received Fault → Option Call
read_as_call direction opcode (Ok r) =
    Some (record { direction = direction; opcode = opcode; received = r })
read_as_call direction opcode (Err fault) = None

-- What the message with this header and this body says, if it can be read. As many tokens wait as
-- it may take.
abbrev pub said : List Interface → Held → ℕ → ℕ → Direction → Header → List ℕ → Option Call
said tables held unread place direction header body =
    read_as_call direction header.opcode
    (received tables (side_of direction) (follower tables held unread place) header body max_args)

-- the same for the message at the front of these bytes; one with a bad size cannot be read
abbrev pub said_in : ℕ → List Interface → Held → ℕ → ℕ → Direction → List ℕ → Option Call
said_in limit tables held unread place direction bytes =
    if is_size limit (header_at bytes).size
    then said tables held unread place direction (header_at bytes)
    (take ((header_at bytes).size - 8) (drop 8 bytes))
    else None

-- ---- the changes by a message

-- the index of an interface; 65535 if the tables lack it
abbrev pub place_or_none : List Interface → List ℕ → Iface
place_or_none tables name =
    option_map_or (λ (place : Iface). place) (place_of tables name) (record { 0 = 65535 })

-- the global that a global event announces, even if the tables lack its interface
abbrev pub announced : List Interface → List Argument → Option AdvertisedGlobal
announced tables (Uint name ∷ Str (Some iface) ∷ Uint version ∷ []) =
    Some (record { name = name; iface = place_or_none tables iface; version = version })
announced tables _ = None

abbrev pub changes_of_call : List Interface → Call → MessageChanges
changes_of_call tables call = let r = call.received in record (changes tables call) {
  advertised = if is_global (side_of call.direction) r.entry.iface call.opcode
      then announced tables r.values else None;
}

-- A message that could not be read makes nothing known. If its target is in the server's range, it
-- may have destroyed it.
abbrev pub changes_unread : Direction → ℕ → MessageChanges
changes_unread direction target = record changes_nothing {
  direction = direction;
  destroyed = destroyed_id (is_of_server target) target;
}

abbrev pub said_changes : List Interface → Direction → ℕ → Option Call → MessageChanges
said_changes tables direction target (Some call) = changes_of_call tables call
said_changes tables direction target None = changes_unread direction target

-- what is held after a message at this place with these changes
pub record IsBehind (place : ℕ) (done : MessageChanges) (before after : Held) : Type 0 where
  pub objects : (id : ℕ) → held_object after id
      ≡ object_after place done id (held_object before id)
  pub versions : (name iface : ℕ) → held_version after (name, iface)
      ≡ advertised_after done name iface (held_version before (name, iface))

-- before the first message: wl_display exists, with id 1 and version 1, and no global
pub record HoldsDisplayAlone (held : Held) : Type 0 where
  pub objects : (id : ℕ) → held_object held id ≡ (if nat_eq id 1
      then Some (record { birth = 0; iface = display; version = 1; state = Live }) else None)
  pub versions : (key : ℕ × ℕ) → held_version held key ≡ 0

-- ---- the messages of a follower

abbrev pub bytes_in : {A : Type 0} → Follower A → Direction → FollowedBytes
bytes_in f ToServer = f.to_server
bytes_in f ToClient = f.to_client

-- A follower with these tables and this limit, before the first byte.
pub record IsNewFollower {A : Type 0} (tables : List Interface) (limit : ℕ) (f : Follower A)
    : Type 0 where
  pub tables_are : f.tables.now ≡ tables
  pub limit_is : f.limit.bytes ≡ limit
  pub held : HoldsDisplayAlone f.held
  pub number : f.number ≡ 1
  pub unread : f.unread ≡ 0
  pub to_server : f.to_server ≡ no_bytes
  pub to_client : f.to_client ≡ no_bytes

-- the size in the header of a direction's next message, if the message is whole or the size is bad
abbrev pub size_ahead : {A : Type 0} → Follower A → Direction → Option ℕ
size_ahead f direction = size_of (front f.limit.bytes (bytes_in f direction).waiting)

-- what the next message says
abbrev pub said_ahead : {A : Type 0} → Follower A → Direction → Option Call
said_ahead f direction =
    said_in f.limit.bytes f.tables.now f.held f.unread f.number direction
    (bytes_in f direction).waiting

abbrev pub header_ahead : {A : Type 0} → Follower A → Direction → Header
header_ahead f direction = header_at (bytes_in f direction).waiting

-- This is the next message of a direction, with what is known before it.
pub record IsFollowed {A : Type 0} (f : Follower A) (direction : Direction) (m : Followed)
    : Type 0 where
  pub size : size_ahead f direction ≡ Some m.header.size
  pub header : m.header ≡ header_ahead f direction
  pub number : m.number ≡ f.number
  pub index : m.index ≡ (bytes_in f direction).index
  pub offset : m.offset ≡ (bytes_in f direction).end
  pub bytes : m.bytes.now ≡ (if is_size f.limit.bytes m.header.size
      then take m.header.size (bytes_in f direction).waiting
      else (bytes_in f direction).waiting)
  pub target : m.target ≡ if_certain f.tables.now f.unread m.header.object
      (held_object f.held m.header.object)
  pub is_read : m.is_read ≡ is_some (said_ahead f direction)
  pub changes_are : m.changes
      ≡ said_changes f.tables.now direction m.header.object (said_ahead f direction)

-- the next message, or that there is none
abbrev pub TellsAhead : {A : Type 0} → Follower A → Direction → Option Followed → Type 0
TellsAhead f direction None = size_ahead f direction ≡ None
TellsAhead f direction (Some m) = IsFollowed f direction m

-- The bytes of a direction after a message. Its own stay in memory until the next bytes come. After
-- one with a bad size nothing is followed.
abbrev pub bytes_behind : Bool → ℕ → FollowedBytes → FollowedBytes
bytes_behind good size b = record {
  waiting = if good then drop size b.waiting else [];
  kept = if good then b.kept else 0;
  index = b.index + 1;
  end = b.end + size;
  is_lost = not good;
}

-- the opposite direction
abbrev pub other : Direction → Direction
other ToServer = ToClient
other ToClient = ToServer

-- A follower passed over the next message of a direction.
pub record WentPast {A : Type 0} (direction : Direction) (before after : Follower A)
    : Type 0 where
  pub held : IsBehind before.number
      (said_changes before.tables.now direction (header_ahead before direction).object
      (said_ahead before direction)) before.held after.held
  pub number : after.number ≡ before.number + 1
  pub unread : after.unread
      ≡ (if is_some (said_ahead before direction) then before.unread else before.number)
  pub own : bytes_in after direction
      ≡ bytes_behind (is_size before.limit.bytes (header_ahead before direction).size)
      (header_ahead before direction).size (bytes_in before direction)
  pub rest : bytes_in after (other direction) ≡ bytes_in before (other direction)
  pub tables : after.tables.now ≡ before.tables.now
  pub limit : after.limit ≡ before.limit

-- Bytes of a direction appended to those that wait. After that, no byte of a message that was
-- passed over is in memory.
abbrev pub with_bytes : List ℕ → FollowedBytes → FollowedBytes
with_bytes bytes b = record b {
  waiting = if b.is_lost then b.waiting else b.waiting ++ bytes;
  kept = if b.is_lost then b.kept else length (b.waiting ++ bytes);
}

-- Bytes of a direction came.
pub record WasFed {A : Type 0} (direction : Direction) (bytes : List ℕ)
    (before after : Follower A) : Type 0 where
  pub own : bytes_in after direction ≡ with_bytes bytes (bytes_in before direction)
  pub rest : bytes_in after (other direction) ≡ bytes_in before (other direction)
  pub held : after.held ≡ before.held
  pub number : after.number ≡ before.number
  pub unread : after.unread ≡ before.unread
  pub tables : after.tables.now ≡ before.tables.now
  pub limit : after.limit ≡ before.limit
