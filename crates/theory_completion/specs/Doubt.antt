-- Which messages of a session tables cannot judge because they may be too old, and which sessions
-- they judge as all tables do that complete them.
use Rattle.std.specs.Prelude.{◌≡◌, ℕ, suc, ◌+◌, ◌-◌, ◌≤◌, Bool, false, not, ◌&&◌, ◌||◌}
use Rattle.std.specs.Prelude.{nat_le, is_none, List, ◌∷◌, drop, take, slice_get, Option, Some, None}
use Rattle.std.specs.Option.{option_map_or}
use Rattle.std.specs.declared.result.Result.{Result}
use Rattle.std.specs.declared.result.Result.TheVariants.{Ok, Err}
use Rattle.wl_wire.specs.declared.header.Header.{Header}
use Rattle.wl_wire.specs.declared.kind.Kind.{Kind}
use Rattle.wl_wire.specs.declared.kind.Kind.TheVariants as kinds
use Rattle.wl_wire.specs.declared.kind.Iface.{Iface}
use Rattle.wl_wire.specs.Argument.{Argument, NewNamed}
use Rattle.wl_wire.specs.Word.{header_at}
use Rattle.wl_sigs.specs.Side.{Side}
use Rattle.wl_sigs.specs.Rules.{is_ended_by_request}
use Rattle.wl_sigs.specs.Tables.{Interface, interface_at, signature_at, place_of}
use Rattle.wl_message.specs.Cut.{is_size}
use Rattle.wl_object_map.specs.declared.object.Entry.{Entry}
use Rattle.wl_object_map.specs.Ranges.{is_of_server}
use Rattle.wl_objects.specs.declared.error.Fault.{Fault}
use Rattle.wl_objects.specs.Messages.{Received, NewObject, made, received, is_bind}
use Rattle.wl_check.specs.declared.frames.FramedMessage.{FramedMessage}
use Rattle.wl_check.specs.Changes.{Call, side_of}
use Rattle.wl_check.specs.Places.{KnownAtPlace, known}
use Rattle.wl_check.specs.Rules.{reader_by}
use Rattle.wl_check.specs.Session.{Session, changes_at, messages}

-- whether tables have an interface in this version or a newer one
abbrev pub has_version : List Interface → Iface → ℕ → Bool
has_version tables iface version =
    option_map_or (λ (i : Interface). nat_le version i.version) (interface_at tables iface.0) false

-- whether the target of a message is newer than the tables, which lack the message
abbrev pub is_newer_message : List Interface → Side → ℕ → Option Entry → Bool
is_newer_message tables side opcode None = false
is_newer_message tables side opcode (Some entry) =
    not (has_version tables entry.iface entry.version)
    && is_none (signature_at tables entry.iface.0 side opcode)

-- whether an argument is a new object of an interface that the tables lack
abbrev pub names_unknown : List Interface → Kind → Argument → Bool
names_unknown tables (kinds.New None) (NewNamed name version id) = is_none (place_of tables name)
names_unknown tables _ _ = false

abbrev pub some_names_unknown : List Interface → List Kind → List Argument → Bool
some_names_unknown tables (kind ∷ ks) (value ∷ values) =
    names_unknown tables kind value || some_names_unknown tables ks values
some_names_unknown tables _ _ = false

-- Whether a message makes an object of the server that is newer than the tables, and they have no
-- request that ends it. In newer tables there may be one, and then the server may not use the id
-- again as long as the object is live.
abbrev pub makes_unsettled : List Interface → Option NewObject → Bool
makes_unsettled tables None = false
makes_unsettled tables (Some new) =
    is_of_server new.id && not (has_version tables new.iface new.version)
    && not (is_ended_by_request new.version (interface_at tables new.iface.0))

abbrev pub has_no_version : List Interface → Option NewObject → Bool
has_no_version tables None = false
has_no_version tables (Some new) = not (has_version tables new.iface new.version)

-- the object that a message makes
abbrev pub made_of : List Interface → Received → Option NewObject
made_of tables r = made tables r.entry.version r.signature.kinds r.values

-- The doubts about a message that was read by raised tables: an interface that no table has, a bind
-- of a version that even the raised tables lack, and an object that the tables do not settle.
abbrev pub is_call_doubtful : List Interface → List Interface → Side → ℕ → Result Received Fault
    → Bool
is_call_doubtful tables raised side opcode (Err fault) = false
is_call_doubtful tables raised side opcode (Ok r) =
    some_names_unknown tables r.signature.kinds r.values
    || (is_bind side r.entry.iface opcode && has_no_version raised (made_of tables r))
    || makes_unsettled tables (made_of tables r)

-- Whether the tables may be too old to judge the message with this header, followed by these bytes.
abbrev pub is_message_doubtful : List Interface → List Interface → KnownAtPlace → FramedMessage
    → Header → List ℕ → Bool
is_message_doubtful tables raised k frame header body =
    let side = side_of frame.direction in
    let reader = reader_by raised k frame.direction in
    is_newer_message tables side header.opcode (reader.object header.object)
    || is_call_doubtful tables raised side header.opcode
    (received raised side reader header body (frame.tokens - k.taken frame.direction))

-- the same for a message of a direction's stream
abbrev pub is_frame_doubtful : ℕ → List Interface → List Interface → KnownAtPlace → List ℕ
    → FramedMessage → Bool
is_frame_doubtful limit tables raised k stream frame =
    is_size limit frame.size
    && is_message_doubtful tables raised k frame (header_at (drop frame.start stream))
    (take (frame.size - 8) (drop (frame.start + 8) stream))

-- the same for the message at a place of a session, numbered from 0
abbrev pub is_doubtful : List Interface → List Interface → Session → ℕ → Bool
is_doubtful tables raised session k =
    option_map_or (λ (frame : FramedMessage). is_frame_doubtful session.limit tables raised
    (known (changes_at raised (messages raised session)) (suc k))
    (session.streams frame.direction) frame) (slice_get session.frames k) false

-- No message up to and including this place is doubtful.
abbrev pub NoneIsDoubtful : List Interface → List Interface → Session → ℕ → Type 0
NoneIsDoubtful tables raised session k =
    (place : ℕ) → place ≤ k → is_doubtful tables raised session place ≡ false

-- whether a message is a bind of a version that these tables lack
abbrev pub binds_newer : List Interface → List Interface → Option (Result Call Fault) → Bool
binds_newer tables others (Some (Ok call)) =
    is_bind (side_of call.direction) call.received.entry.iface call.opcode
    && has_no_version others (made_of tables call.received)
binds_newer tables others _ = false

-- Other tables have each version that a message up to and including this place binds.
abbrev pub KnowsBinds : List Interface → List Interface → List Interface → Session → ℕ → Type 0
KnowsBinds tables raised others session k =
    (place : ℕ) → place ≤ k
    → binds_newer tables others (slice_get (messages raised session) place) ≡ false
