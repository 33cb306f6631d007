-- The rules that a message of a session keeps, given what is known at its place.
use Rattle.std.specs.Prelude.{ℕ, ◌+◌, ◌-◌, Bool, false, not, ◌&&◌, nat_le, nat_eq, is_none, List}
use Rattle.std.specs.Prelude.{drop, take, if◌then◌else◌, Option, Some, None}
use Rattle.std.specs.Option.{option_map_or}
use Rattle.std.specs.declared.result.Result.{Result}
use Rattle.std.specs.declared.result.Result.TheVariants.{Ok, Err}
use Rattle.wl_wire.specs.declared.header.Header.{Header}
use Rattle.wl_wire.specs.declared.kind.Iface.{Iface}
use Rattle.wl_wire.specs.Word.{header_at}
use Rattle.wl_sigs.specs.Side.{Side}
use Rattle.wl_sigs.specs.Tables.{Interface, interface_at}
use Rattle.wl_message.specs.Cut.{is_size}
use Rattle.wl_object_map.specs.declared.object.Entry.{Entry}
use Rattle.wl_objects.specs.declared.error.Fault.{Fault}
use Rattle.wl_objects.specs.declared.error.Fault.TheVariants.{BadSize, BadBind}
use Rattle.wl_object_map.specs.Ranges.{first_server_id, max_server_id, is_of_server}
use Rattle.wl_object_map.specs.View.{lives, max_ids}
use Rattle.wl_objects.specs.Reading.{Reader}
use Rattle.wl_objects.specs.Messages.{Received, NewObject, made, received, is_bind, new_id_of}
use Rattle.wl_objects.specs.Messages.{waits_for_request}
use Rattle.wl_recording.specs.declared.piece.Direction.{Direction}
use Rattle.wl_recording.specs.declared.piece.Direction.TheVariants.{ToServer, ToClient}
use Rattle.wl_check.specs.declared.frames.FramedMessage.{FramedMessage}
use Rattle.wl_check.specs.Changes.{Call, side_of, first_number}
use Rattle.wl_check.specs.Places.{KnownAtPlace}

-- an object that is open
abbrev pub if_open : Option Entry → Option Entry
if_open None = None
if_open (Some entry) = if lives entry.state then Some entry else None

-- what a message may name: a request an open object, an event a held one
abbrev pub nameable : Direction → Option Entry → Option Entry
nameable ToServer entry = if_open entry
nameable ToClient entry = entry

-- An id for a new object of the client: not 0, not that of a held object, and used before or the
-- next one.
abbrev pub is_free_id : KnownAtPlace → ℕ → Bool
is_free_id k id = not (nat_eq id 0) && is_none (k.object id) && nat_le id (k.used + 1)

-- An id for a new object of the server: in the server's range, not that of an open object that a
-- request can end, and used before or the next one.
abbrev pub is_free_server_id : List Interface → KnownAtPlace → ℕ → Bool
is_free_server_id tables k id =
    is_of_server id && not (waits_for_request tables (k.object id))
    && nat_le id (first_server_id + k.server_used)

-- What the reader of a message knows; births do not matter.
abbrev pub reader_by : List Interface → KnownAtPlace → Direction → Reader
reader_by tables k direction = record {
  object = λ id. nameable direction (k.object id);
  new_id = λ id. new_id_of (is_free_id k id) (nat_le id max_ids);
  new_server_id = λ id. new_id_of (is_free_server_id tables k id) (nat_le id max_server_id);
  birth = 0;
  forgives = false;
}

-- the version of an interface in the tables
abbrev pub version_of : List Interface → Iface → ℕ
version_of tables iface =
    option_map_or (λ (i : Interface). i.version) (interface_at tables iface.0) 0

-- A bind of this name may make this object: its interface is in the tables, and its version is at
-- least 1, at most that of the tables, and at most one that an event advertised for this name and
-- interface.
abbrev pub allows_bind : List Interface → KnownAtPlace → Option ℕ → Option NewObject → Bool
allows_bind tables k (Some name) (Some new) =
    nat_le 1 new.version && nat_le new.version (version_of tables new.iface)
    && nat_le new.version (k.advertised_version name new.iface.0)
allows_bind tables k _ _ = false

abbrev pub is_disallowed_bind : List Interface → KnownAtPlace → Side → ℕ → Received → Bool
is_disallowed_bind tables k side opcode r =
    is_bind side r.entry.iface opcode
    && not (allows_bind tables k (first_number r.values)
    (made tables r.entry.version r.signature.kinds r.values))

-- F9 is tested last
abbrev pub called : List Interface → KnownAtPlace → Direction → ℕ → Result Received Fault
    → Result Call Fault
called tables k direction opcode (Err fault) = Err fault
called tables k direction opcode (Ok r) =
    if is_disallowed_bind tables k (side_of direction) opcode r then Err BadBind
    else Ok (record { direction = direction; opcode = opcode; received = r })

-- the message with this header, followed by these bytes
abbrev pub judged_message : List Interface → KnownAtPlace → FramedMessage → Header → List ℕ
    → Result Call Fault
judged_message tables k frame header body =
    called tables k frame.direction header.opcode
    (received tables (side_of frame.direction) (reader_by tables k frame.direction) header body
    (frame.tokens - k.taken frame.direction))

-- A message of a direction's stream, judged with what is known at its place: its meaning, or the
-- first rule that it breaks.
abbrev pub judged : ℕ → List Interface → KnownAtPlace → List ℕ → FramedMessage → Result Call Fault
judged limit tables k stream frame =
    if is_size limit frame.size
    then judged_message tables k frame (header_at (drop frame.start stream))
    (take (frame.size - 8) (drop (frame.start + 8) stream))
    else Err BadSize

-- the same, given the bytes of the stream from the message on
abbrev pub judged_front : ℕ → List Interface → KnownAtPlace → List ℕ → FramedMessage
    → Result Call Fault
judged_front limit tables k bytes frame =
    if is_size limit frame.size
    then judged_message tables k frame (header_at bytes) (take (frame.size - 8) (drop 8 bytes))
    else Err BadSize
