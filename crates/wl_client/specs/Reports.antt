-- What a client reads, and what state that leaves.
use Rattle.std.specs.Prelude.{ℕ, ◌+◌, Bool, true, false, ◌&&◌, not, nat_eq, nat_lt}
use Rattle.std.specs.Prelude.{if◌then◌else◌, List}
use Rattle.std.specs.Prelude.{[], ◌∷◌, ◌++◌, length, map, filter, Option, Some, None, is_some}
use Rattle.std.specs.Prelude.{unwrap_or, slice_get, option_map}
use Rattle.std.specs.declared.result.Result.{Result}
use Rattle.std.specs.declared.result.Result.TheVariants.{Ok}
use Rattle.wl_wire.specs.declared.kind.Iface.{Iface}
use Rattle.wl_wire.specs.Argument.{Argument, Uint, Str, Obj}
use Rattle.wl_sigs.specs.Side.TheVariants.{Request as request_side}
use Rattle.wl_sigs.specs.Side.TheVariants.{Event as event_side}
use Rattle.wl_sigs.specs.Tables.{Interface, place_of}
use Rattle.wl_sigs.specs.Fixed.{registry}
use Rattle.wl_object_map.specs.declared.object.Object.{Object}
use Rattle.wl_object_map.specs.declared.object.State.{State as ObjectState}
use Rattle.wl_object_map.specs.declared.object.State.TheVariants.{Live, Zombie}
use Rattle.wl_objects.specs.declared.argument.Named.{Named}
use Rattle.wl_objects.specs.declared.error.Fault.{Fault}
use Rattle.wl_objects.specs.declared.error.NextError.{NextError}
use Rattle.wl_object_map.specs.declared.object.Entry.{Entry}
use Rattle.wl_object_map.specs.View as table
use Rattle.wl_object_map.specs.declared.object.Maker.TheVariants.{Server}
use Rattle.wl_object_map.specs.Ranges.{first_server_id}
use Rattle.wl_object_map.specs.Objects.{Objects, look, births, ids_used}
use Rattle.wl_objects.specs.Reading.{Reported, named_at}
use Rattle.wl_objects.specs.Messages.{Received, NewObject, made, is_error, is_delete_id, same_iface}
use Rattle.wl_objects.specs.Messages.{after, after_delete_id, ended_id}
use Rattle.wl_connection.specs.Core.{Core, with_view, with_failure}
use Rattle.wl_connection.specs.Receiving.{Found, found, reader_in, reported, own_tokens}
use Rattle.wl_connection.specs.Receiving.{past_found, is_empty_list}
use Rattle.wl_connection.specs.Roles.{Role, role_answer, role_after, IsNext}
use Rattle.wl_client.specs.State.{State, Global, is_named, global_of, with_core}
use Rattle.wl_object_map.specs.View.{lives}
use Rattle.wl_connection.specs.Core.{max_globals}

-- What a client reports.
pub data Report : Type 0 where
  -- an event for a live object
  Event : (target : Object) (opcode : ℕ) (args : List Reported) → Report
  -- an event for a zombie, and the tokens that came with it
  Discarded : (target : Object) (opcode : ℕ) (tokens : List ℕ) → Report
  -- delete_id of an object
  Deleted : Object → Report
  -- delete_id of an id that has no object, or of wl_display's
  Stray : (id : ℕ) → Report
  -- wl_display.error: the id in it, the object that the client has with that id, the code and the
  -- text
  Error : (id : ℕ) (named : Named) (code : ℕ) (text : List ℕ) → Report

-- ---- the report of a message

abbrev pub text_or_empty : Option (List ℕ) → List ℕ
text_or_empty None = []
text_or_empty (Some text) = text

-- an id, a number or a text among the arguments of a message that has one at that index
abbrev pub id_in : Argument → ℕ
id_in (Obj id) = id
id_in _ = 0

abbrev pub number_in : Argument → ℕ
number_in (Uint n) = n
number_in _ = 0

abbrev pub text_in : Argument → List ℕ
text_in (Str text) = text_or_empty text
text_in _ = []

-- the argument at an index
abbrev pub argument : List Argument → ℕ → Argument
argument values place = unwrap_or (slice_get values place) (Uint 0)

-- wl_display.error gives only an id, which may be null or unknown
abbrev pub error_report : Core → List Argument → Report
error_report core values =
    Error (id_in (argument values 0))
    (named_at (reader_in core event_side) (id_in (argument values 0)))
    (number_in (argument values 1)) (text_in (argument values 2))

abbrev pub deleted : ℕ → Option Entry → Report
deleted id None = Stray id
deleted id (Some entry) = Deleted (record { id = id; birth = entry.birth })

abbrev pub delete_report : Core → ℕ → Report
delete_report core id = if nat_eq id 1 then Stray 1 else deleted id (table.look core.view.client id)

abbrev pub plain_report : Core → ℕ → Received → ObjectState → Report
plain_report core opcode message Live =
    Event message.target opcode (reported core event_side message)
plain_report core opcode message Zombie = Discarded message.target opcode (own_tokens core message)

-- whether a message is wl_display.error
abbrev pub is_error_event : Found → Bool
is_error_event f = is_error event_side f.message.entry.iface f.opcode

-- whether a message is wl_display.delete_id, and of which id
abbrev pub is_delete_event : Found → Bool
is_delete_event f = is_delete_id event_side f.message.entry.iface f.opcode

abbrev pub deleted_id : Found → ℕ
deleted_id f = number_in (argument f.message.values 0)

-- The report of a message.
abbrev pub report : Core → Found → Report
report core f =
    if is_error_event f then error_report core f.message.values
    else if is_delete_event f then delete_report core (deleted_id f)
    else plain_report core f.opcode f.message f.message.entry.state

-- The entry, in these objects, of the object that a report is about: an event's target, the object
-- that delete_id ended, or the one that wl_display.error names. None if there is no such object.
abbrev pub entry_of : Objects → Report → Option Entry
entry_of view (Event target opcode args) = look view target.id
entry_of view (Discarded target opcode tokens) = look view target.id
entry_of view (Deleted object) = look view object.id
entry_of view (Stray id) = None
entry_of view (Error id named code text) = look view id

-- whether a report needs memory: for an event's arguments, or for the text of wl_display.error
abbrev pub needs_memory : Report → Bool
needs_memory (Event target opcode args) = not (is_empty_list args)
needs_memory (Error id named code text) = true
needs_memory _ = false

-- ---- the state after a message

-- whether an object is made at the next id of the server's range, one that was never used
abbrev pub opens_row : Objects → Option NewObject → Bool
opens_row view None = false
opens_row view (Some m) = nat_eq m.id (first_server_id + ids_used Server view)

-- the object that an event makes, if it makes one; also for an event for a zombie
abbrev pub made_by_event : Core → Received → Option NewObject
made_by_event core message = made core.tables message.entry.version message.signature.kinds
    message.values

abbrev pub view_after : Core → Found → Objects
view_after core f =
    if is_error_event f then core.view
    else if is_delete_event f then after_delete_id core.view (deleted_id f)
    else after request_side core.view (made_by_event core f.message) f.message.signature.destroys
    (ended_id f.message.signature.destroys f.message.target.id f.message.values)

-- the globals without one of this name
abbrev pub forgotten : ℕ → List Global → List Global
forgotten name globals = filter (λ global. not (is_named name global)) globals

-- the globals with this one replacing the one of its name
abbrev pub with_replaced : Global → List Global → List Global
with_replaced global globals =
    map (λ other. if is_named global.name other then global else other) globals

-- the globals with this one: it replaces another of its name, else it is last, if there is room
abbrev pub remembered : Global → List Global → List Global
remembered global globals =
    if is_some (global_of globals global.name) then with_replaced global globals
    else if nat_lt (length globals) max_globals then globals ++ global ∷ []
    else globals

-- a global whose interface is not in the tables is not remembered, and its name is removed
abbrev pub remembered_as : ℕ → ℕ → Option Iface → List Global → List Global
remembered_as name version None globals = forgotten name globals
remembered_as name version (Some iface) globals =
    remembered (record { name = name; iface = iface; version = version }) globals

-- the globals after an event of wl_registry: `global` (0) adds one, `global_remove` (1) removes one
abbrev pub globals_told : List Interface → List Global → ℕ → List Argument → List Global
globals_told tables globals opcode values =
    if nat_eq opcode 0
    then remembered_as (number_in (argument values 0)) (number_in (argument values 2))
    (place_of tables (text_in (argument values 1))) globals
    else if nat_eq opcode 1 then forgotten (number_in (argument values 0)) globals
    else globals

-- only events for a live registry change the globals
abbrev pub globals_after : State → Found → List Global
globals_after state f =
    if same_iface f.message.entry.iface registry && lives f.message.entry.state
    then globals_told state.core.tables state.globals f.opcode f.message.values
    else state.globals

-- a new object with its birth, if it is opened in these objects
abbrev pub object_made : Objects → Option NewObject → Option Object
object_made view made =
    option_map (λ (m : NewObject). record { id = m.id; birth = births view m.id }) made

-- the object with an id, from its row, if it is live
abbrev pub live_object : ℕ → Option Entry → Option Object
live_object id None = None
live_object id (Some entry) =
    if lives entry.state then Some (record { id = id; birth = entry.birth }) else None

-- the live object that a new object with the same id replaces
abbrev pub object_replaced : Objects → Option NewObject → Option Object
object_replaced view None = None
object_replaced view (Some m) = live_object m.id (look view m.id)

abbrev pub core_after : Core → Found → Core
core_after core f = record (with_view (past_found core f) (view_after core f)) {
  failed = is_error_event f;
}

abbrev pub state_past : State → Found → State
state_past state f = record {
  core = core_after state.core f;
  globals = globals_after state f;
  made = object_made state.core.view (made_by_event state.core f.message);
  replaced = object_replaced state.core.view (made_by_event state.core f.message);
}

-- ---- reading the next message, if no memory is needed

-- whether this reports wl_display.error, after which nothing is read
abbrev pub is_last : Report → Bool
is_last (Error id named code text) = true
is_last _ = false

-- Whether the first message opens an object at an id that was never used, which may need memory. At
-- a used id the new object replaces the one that is there, for example a zombie.
abbrev pub event_opens : Core → Result (Option Found) Fault → Bool
event_opens core (Ok (Some f)) = opens_row core.view (made_by_event core f.message)
event_opens core _ = false

-- A client's reading never waits for room. A fault makes the client fail. A wl_display.error makes
-- it fail once it is reported.
abbrev pub client_role : Role State Report
client_role = record {
  core = λ state. state.core;
  with_core = with_core;
  reads = event_side;
  in_front = λ state. found state.core event_side;
  is_full = λ core f. false;
  report = report;
  past = state_past;
  failing = λ state fault. with_core state (with_failure state.core);
  is_last = is_last;
  wants = needs_memory;
  opens = λ state. event_opens state.core (found state.core event_side);
}

-- What `next` returns: the report of the first message, nothing if it is not whole, or why it
-- cannot be read.
abbrev pub next_answer : State → Result (Option Report) NextError
next_answer state = role_answer client_role state

-- The state that `next` leaves.
abbrev pub after_next : State → State
after_next state = role_after client_role state

-- What `next_owned` returns if memory can be refused: the same, except that it may be out of memory
-- for a report that needs some, or for an event that opens an object at an id that was never used.
abbrev pub IsClientNext : State → Result (Option Report) NextError → Type 0
IsClientNext state result = IsNext client_role state result
