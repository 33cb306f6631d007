-- A whole message at an end: what it means to its reader, what a writer must fulfil, and how it
-- changes the end's objects.
use Rattle.std.specs.Prelude.{ℕ, ◌+◌, slice_get, Bool, true, false, ◌&&◌, ◌||◌, not, List, []}
use Rattle.std.specs.Prelude.{◌∷◌, map}
use Rattle.std.specs.Prelude.{nat_eq, nat_le, nat_lt, if◌then◌else◌, Option, Some, None, option_map}
use Rattle.std.specs.declared.result.Result.{Result}
use Rattle.std.specs.declared.result.Result.TheVariants.{Ok, Err}
use Rattle.wl_wire.specs.declared.kind.Kind.{Kind}
use Rattle.wl_wire.specs.declared.kind.Kind.TheVariants as kinds
use Rattle.wl_wire.specs.declared.kind.Iface.{Iface}
use Rattle.wl_wire.specs.declared.header.Header.{Header}
use Rattle.wl_wire.specs.Argument.{Argument, Obj, New, NewNamed}
use Rattle.wl_sigs.specs.Side.{Side}
use Rattle.wl_sigs.specs.Side.TheVariants.{Request, Event}
use Rattle.wl_sigs.specs.Destroys.{Destroys}
use Rattle.wl_sigs.specs.Destroys.TheVariants.{Nothing, Target, Arg}
use Rattle.wl_sigs.specs.Tables.{MessageSignature, Interface, signature_at, interface_at, place_of}
use Rattle.wl_sigs.specs.Tables.{descriptors}
use Rattle.wl_sigs.specs.Fixed.{display, registry}
use Rattle.wl_object_map.specs.declared.object.Object.{Object}
use Rattle.wl_object_map.specs.declared.object.Entry.{Entry}
use Rattle.wl_objects.specs.declared.error.Fault.{Fault}
use Rattle.wl_objects.specs.declared.error.Fault.TheVariants as faults
use Rattle.wl_objects.specs.declared.error.SendError.{SendError}
use Rattle.wl_objects.specs.declared.error.SendError.TheVariants as refusals
use Rattle.wl_object_map.specs.View as table
use Rattle.wl_object_map.specs.View.{free_or_next, has_room}
use Rattle.wl_object_map.specs.Objects as objects
use Rattle.wl_object_map.specs.Objects.{Objects, look, next_birth, opened_at, closed, zombied}
use Rattle.wl_object_map.specs.Ranges.{is_of_server, table_id}
use Rattle.wl_object_map.specs.declared.object.Maker.{Maker}
use Rattle.wl_object_map.specs.declared.object.Maker.TheVariants.{Client, Server}
use Rattle.wl_object_map.specs.View.{lives}
use Rattle.wl_objects.specs.declared.lookup.NewId.{NewId}
use Rattle.wl_objects.specs.declared.lookup.NewId.TheVariants.{Free, Wrong, TooMany}
use Rattle.wl_objects.specs.Reading.{Reader, forgiving, arguments_at}
use Rattle.wl_objects.specs.declared.argument.Arg.{Arg as CallArg}
use Rattle.wl_objects.specs.Writing.{Given, wrong_place, lost_place, is_live_as, wired, message_len}
use Rattle.wl_objects.specs.Writing.{numbers_by}
use Rattle.wl_objects.specs.declared.new_object.NewObject.{NewObject as Declared}
use Rattle.wl_sigs.specs.Rules.{is_empty, is_ended_by_request}

-- ---- reading

-- the result for an id as a new one: F6 is tested before F10
abbrev pub new_id_of : Bool → Bool → NewId
new_id_of free room = if free then (if room then Free else TooMany) else Wrong

-- who makes the objects of messages of a side
abbrev pub maker_by : Side → Maker
maker_by Request = Client
maker_by Event = Server

-- whether an object is live and a request can destroy it: its interface has a destroying request at
-- the object's version
abbrev pub waits_for_request : List Interface → Option Entry → Bool
waits_for_request tables None = false
waits_for_request tables (Some entry) =
    lives entry.state && is_ended_by_request entry.version (interface_at tables entry.iface.0)

-- An id for a new object of the server: in the server's range, not that of a live object that a
-- request can destroy, and used before or the next one.
abbrev pub server_may_use : List Interface → Objects → ℕ → Bool
server_may_use tables view id =
    is_of_server id && not (waits_for_request tables (look view id))
    && nat_le (table_id id) (view.server.used + 1)

-- What an end with these objects knows when it reads messages of a side.
abbrev pub reader_of : List Interface → Side → Objects → Reader
reader_of tables side view = record {
  object = look view;
  new_id = λ id. new_id_of (free_or_next view.client id) (has_room view.client id);
  new_server_id = λ id. new_id_of (server_may_use tables view id) (objects.has_room view id);
  birth = next_birth (maker_by side) view;
  forgives = false;
}

abbrev pub same_iface : Iface → Iface → Bool
same_iface a b = nat_eq a.0 b.0

-- wl_display.error: the object that it names may be null or unknown
abbrev pub is_error : Side → Iface → ℕ → Bool
is_error Request iface opcode = false
is_error Event iface opcode = same_iface iface display && nat_eq opcode 0

-- wl_display.delete_id
abbrev pub is_delete_id : Side → Iface → ℕ → Bool
is_delete_id Request iface opcode = false
is_delete_id Event iface opcode = same_iface iface display && nat_eq opcode 1

-- wl_registry.bind
abbrev pub is_bind : Side → Iface → ℕ → Bool
is_bind Request iface opcode = same_iface iface registry && nat_eq opcode 0
is_bind Event iface opcode = false

-- A message that was read: its target, the target's row, the signature, and the arguments as
-- spelled.
pub record Received : Type 0 where
  pub target : Object
  pub entry : Entry
  pub signature : MessageSignature
  pub values : List Argument

abbrev pub received_whole : Header → Entry → MessageSignature → ℕ
    → Result (List Argument × List ℕ) Fault
    → Result Received Fault
received_whole header entry signature waiting (Err fault) = Err fault
received_whole header entry signature waiting (Ok found) =
    if not (is_empty found.1) then Err faults.TrailingBytes
    else if nat_lt waiting (descriptors signature.kinds) then Err faults.MissingDescriptor
    else Ok (record {
      target = record { id = header.object; birth = entry.birth };
      entry = entry;
      signature = signature;
      values = found.0;
    })

abbrev pub received_as : Side → Reader → Header → List ℕ → ℕ → Entry → Option MessageSignature
    → Result Received Fault
received_as side reader header body waiting entry None = Err faults.UnknownMessage
received_as side reader header body waiting entry (Some signature) =
    if nat_lt entry.version signature.since then Err faults.UnknownMessage
    else received_whole header entry signature waiting
    (arguments_at (forgiving (is_error side entry.iface header.opcode) reader)
    0 signature.kinds body)

abbrev pub received_by : List Interface → Side → Reader → Header → List ℕ → ℕ → Option Entry
    → Result Received Fault
received_by tables side reader header body waiting None = Err faults.UnknownObject
received_by tables side reader header body waiting (Some entry) =
    received_as side reader header body waiting entry
    (signature_at tables entry.iface.0 side header.opcode)

-- A message of one side as received by its reader, while `waiting` tokens wait: what was read, or
-- the first fault of: F2; F3; for each argument from the left F4, F5, F6, F10; then F7, F8.
abbrev pub received : List Interface → Side → Reader → Header → List ℕ → ℕ → Result Received Fault
received tables side reader header body waiting =
    received_by tables side reader header body waiting (reader.object header.object)

-- ---- what a message does to the objects

-- a new object: its id, its interface, its version
abbrev pub NewObject : Type 0
NewObject = Declared

-- The new object of one argument: with the signature's interface and the target's version, or with
-- those that the argument gives.
abbrev pub made_by : List Interface → ℕ → Kind → Argument → Option NewObject
made_by tables version (kinds.New (Some iface)) (New id) =
    Some (record { id = id; iface = iface; version = version })
made_by tables version (kinds.NewByServer iface) (New id) =
    Some (record { id = id; iface = iface; version = version })
made_by tables version (kinds.New None) (NewNamed name own id) =
    option_map (λ iface. record { id = id; iface = iface; version = own }) (place_of tables name)
made_by tables version _ _ = None

abbrev pub or_else : {X : Type 0} → Option X → Option X → Option X
or_else None other = other
or_else (Some x) other = Some x

-- the object that a message makes, given the target's version
abbrev pub made : List Interface → ℕ → List Kind → List Argument → Option NewObject
made tables version (kind ∷ ks) (value ∷ values) =
    or_else (made_by tables version kind value) (made tables version ks values)
made tables version _ _ = None

-- An object destroyed at the end that writes this side: at the client it becomes a zombie until its
-- delete_id comes; at the server it is removed and its id is free.
abbrev pub destroyed : Side → Objects → ℕ → Objects
destroyed Request view id = zombied view id
destroyed Event view id = closed view id

abbrev pub opens : Objects → Option NewObject → Objects
opens view None = view
opens view (Some m) = opened_at view m.id m.iface m.version

abbrev pub destroys : Side → Destroys → ℕ → Objects → Objects
destroys side Nothing target view = view
destroys side Target target view = destroyed side view target
destroys side (Arg place) target view = destroyed side view target

-- the id of the object that the argument at a place names
abbrev pub id_named : Option Argument → ℕ
id_named (Some (Obj id)) = id
id_named _ = 0

abbrev pub id_at : List Argument → ℕ → ℕ
id_at values place = id_named (slice_get values place)

-- the id of the object that a message destroys; 0 if it destroys none
abbrev pub ended_id : Destroys → ℕ → List Argument → ℕ
ended_id Nothing target values = target
ended_id Target target values = target
ended_id (Arg place) target values = id_at values place

-- The objects of the end that writes this side, after it wrote or read a message other than
-- delete_id: the new object is made first.
abbrev pub after : Side → Objects → Option NewObject → Destroys → ℕ → Objects
after side view new what target = destroys side what target (opens view new)

-- The client's objects after delete_id: the row of a used id other than 1 is closed.
abbrev pub after_delete_id : Objects → ℕ → Objects
after_delete_id view id = if table.is_held view.client id && not (nat_eq id 1)
    then closed view id else view

-- ---- writing

-- the messages that `send` does not write: bind, and the events of wl_display and wl_registry
abbrev pub is_hidden : Side → Iface → ℕ → Bool
is_hidden Request iface opcode = same_iface iface registry && nat_eq opcode 0
is_hidden Event iface opcode = same_iface iface display || same_iface iface registry

abbrev pub signature_within_limit : (limit len : ℕ) → MessageSignature
    → Result MessageSignature SendError
signature_within_limit limit len signature =
    if nat_lt limit len then Err refusals.TooLong else Ok signature

abbrev pub signature_unless_lost : ℕ → Option ℕ → ℕ → MessageSignature
    → Result MessageSignature SendError
signature_unless_lost limit None len signature = signature_within_limit limit len signature
signature_unless_lost limit (Some place) len signature = Err (refusals.BadObject place)

abbrev pub signature_unless_wrong : ℕ → Option ℕ → Option ℕ → ℕ → MessageSignature
    → Result MessageSignature SendError
signature_unless_wrong limit None lost len signature =
    signature_unless_lost limit lost len signature
signature_unless_wrong limit (Some place) lost len signature = Err (refusals.WrongArgs place)

abbrev pub checked_as : ℕ → Objects → List Given → Entry → Option MessageSignature
    → Result MessageSignature SendError
checked_as limit view given entry None = Err refusals.NoSuchMessage
checked_as limit view given entry (Some signature) =
    if nat_lt entry.version signature.since then Err refusals.TooOld
    else signature_unless_wrong limit (wrong_place 0 signature.kinds given)
    (lost_place (look view) 0 signature.kinds given) (message_len (map (wired 0) given)) signature

abbrev pub unless_hidden : Bool → Option MessageSignature → Option MessageSignature
unless_hidden true signature = None
unless_hidden false signature = signature

abbrev pub checked_by : ℕ → List Interface → Side → Objects → ℕ → List Given → Option Entry
    → Result MessageSignature SendError
checked_by limit tables side view opcode given None = Err refusals.Stale
checked_by limit tables side view opcode given (Some entry) =
    checked_as limit view given entry
    (unless_hidden (is_hidden side entry.iface opcode)
    (signature_at tables entry.iface.0 side opcode))

-- the row of an object that is live with this birth
abbrev pub live_row : Objects → Object → Option Entry
live_row view object =
    if is_live_as object.birth (look view object.id) then look view object.id else None

-- Why a call is refused, before room is considered: the first of S2, S3, S4, S5, S6 and S8; else
-- the message's signature. The first argument is the limit of S8.
abbrev pub checked : ℕ → List Interface → Side → Objects → Object → ℕ → List Given
    → Result MessageSignature SendError
checked limit tables side view target opcode given =
    checked_by limit tables side view opcode given (live_row view target)

-- the kinds of the arguments of a message that a row's object has; none if it has no such message
abbrev pub kinds_in : Option MessageSignature → List Kind
kinds_in None = []
kinds_in (Some signature) = signature.kinds

abbrev pub kinds_at : List Interface → Side → ℕ → Option Entry → List Kind
kinds_at tables side opcode None = []
kinds_at tables side opcode (Some entry) = kinds_in (signature_at tables entry.iface.0 side opcode)

-- The arguments that words are for the message that a call names. If there is no such message, the
-- call is refused whatever they are.
abbrev pub numbers_called : List Interface → Side → Objects → Object → ℕ → List ℕ → List CallArg
numbers_called tables side view target opcode words =
    numbers_by (kinds_at tables side opcode (look view target.id)) words
