-- What a server reads, and what state that leaves.
use Rattle.std.specs.Prelude.{ℕ, slice_get, Bool, true, false, ◌&&◌, not, nat_lt, nat_le, bytes_eq}
use Rattle.std.specs.Prelude.{if◌then◌else◌, List, [], ◌∷◌, codes, is_some, Option, Some, None}
use Rattle.std.specs.declared.result.Result.{Result}
use Rattle.std.specs.declared.result.Result.TheVariants.{Ok, Err}
use Rattle.wl_wire.specs.Argument.{Argument, Uint, Obj, NewNamed}
use Rattle.wl_sigs.specs.Destroys.{Destroys}
use Rattle.wl_sigs.specs.Destroys.TheVariants.{Nothing, Target, Arg}
use Rattle.wl_sigs.specs.Side.TheVariants.{Request as request_side}
use Rattle.wl_sigs.specs.Side.TheVariants.{Event as event_side}
use Rattle.wl_sigs.specs.Tables.{Interface, interface_at, destroys_one}
use Rattle.wl_message.specs.Outgoing.{room_of}
use Rattle.wl_object_map.specs.declared.object.Object.{Object}
use Rattle.wl_object_map.specs.Ranges.{is_of_server}
use Rattle.wl_objects.specs.declared.error.Fault.{Fault}
use Rattle.wl_objects.specs.declared.error.Fault.TheVariants as faults
use Rattle.wl_objects.specs.declared.error.NextError.{NextError}
use Rattle.wl_objects.specs.declared.error.NextError.TheVariants as errors
use Rattle.wl_objects.specs.declared.argument.Named.TheVariants as named_as
use Rattle.wl_objects.specs.Reading.{Reported}
use Rattle.wl_objects.specs.Messages.{Received, NewObject, made, is_bind, after}
use Rattle.wl_connection.specs.Core.{Core, with_view}
use Rattle.wl_connection.specs.Outcomes.{unless_memory}
use Rattle.wl_connection.specs.Receiving.{Found, found, reported, past_found, is_empty_list}
use Rattle.wl_connection.specs.Roles.{Role, role_answer, role_after, IsReportNext}
use Rattle.wl_connection.specs.Sending.{with_following, with_error_event, delete_id_len}
use Rattle.wl_server.specs.State.{State, Global, Registry, global_of, untold, with_core}
use Rattle.wl_server.specs.Registries.{with_registry, without_object}

-- What a server reports.
pub record Report : Type 0 where
  pub target : Object
  pub opcode : ℕ
  pub args : List Reported

-- ---- the bind rule

abbrev pub name_fits : List ℕ → Option Interface → Bool
name_fits name None = false
name_fits name (Some i) = bytes_eq i.name name

-- whether a bind names a global that was ever advertised, withdrawn or not, with its interface and
-- a version from 1 to the advertised one
abbrev pub was_advertised : List Interface → List ℕ → ℕ → Option Global → Bool
was_advertised tables iface version None = false
was_advertised tables iface version (Some global) =
    name_fits iface (interface_at tables global.iface.0)
    && (nat_le 1 version && nat_le version global.version)

abbrev pub is_good_bind_of : List Interface → List Global → List Argument → Bool
is_good_bind_of tables globals (Uint name ∷ NewNamed iface version id ∷ []) =
    was_advertised tables iface version (global_of globals name)
is_good_bind_of tables globals _ = false

abbrev pub is_good_bind : State → List Argument → Bool
is_good_bind state values = is_good_bind_of state.core.tables state.globals values

-- F9 comes after all other faults
abbrev pub unless_bad_bind : State → Result (Option Found) Fault → Result (Option Found) Fault
unless_bad_bind state (Ok (Some f)) =
    if is_bind request_side f.message.entry.iface f.opcode
    && not (is_good_bind state f.message.values)
    then Err faults.BadBind else Ok (Some f)
unless_bad_bind state other = other

-- What is at the front of a server's waiting bytes.
abbrev pub request : State → Result (Option Found) Fault
request state = unless_bad_bind state (found state.core request_side)

-- ---- the event of a fault

abbrev pub fault_code : Fault → ℕ
fault_code faults.UnknownObject = 0
fault_code faults.BadBind = 0
fault_code faults.TooManyObjects = 2
fault_code _ = 1

abbrev pub fault_message : Fault → List ℕ
fault_message faults.BadSize = codes "bad message size"
fault_message faults.UnknownObject = codes "unknown object"
fault_message faults.UnknownMessage = codes "unknown request"
fault_message (faults.BadArgument place fault) = codes "malformed request"
fault_message (faults.BadObject place) = codes "bad object argument"
fault_message (faults.BadNewId place) = codes "bad new id"
fault_message faults.TrailingBytes = codes "malformed request"
fault_message faults.MissingDescriptor = codes "missing descriptor"
fault_message faults.BadBind = codes "bad bind"
fault_message faults.TooManyObjects = codes "too many objects"

-- the server after a fault: its outbox ends with the error event for object 1
abbrev pub after_fault : State → Fault → State
after_fault state fault =
    with_core state (with_error_event state.core 1 (fault_code fault) (fault_message fault))

-- ---- the state after a request

-- the object that a request makes
abbrev pub made_by_request : Core → Received → Option NewObject
made_by_request core message = made core.tables message.entry.version message.signature.kinds
    message.values

abbrev pub destroys_it : Received → Bool
destroys_it message = destroys_one message.signature.destroys

-- the object that a reported argument names
abbrev pub reported_object : Option Reported → Object
reported_object (Some (Obj (named_as.Live object))) = object
reported_object (Some (Obj (named_as.Dead object))) = object
reported_object _ = record { id = 0; birth = 0 }

-- the object that a request destroys, if it destroys one, from its report: its target, or the
-- object that an argument names
abbrev pub ended_object : Destroys → Report → Object
ended_object Nothing report = report.target
ended_object Target report = report.target
ended_object (Arg place) report = reported_object (slice_get report.args place)

abbrev pub report : Core → Found → Report
report core f = record {
  target = f.message.target;
  opcode = f.opcode;
  args = reported core request_side f.message;
}

abbrev pub ended : Core → Found → Object
ended core f = ended_object f.message.signature.destroys (report core f)

-- whether a request must be followed by a delete_id: it destroys an object that the client made
abbrev pub owes_delete_id : Core → Found → Bool
owes_delete_id core f = destroys_it f.message && not (is_of_server (ended core f).id)

-- the end after a request: its message is taken, the object that it makes is opened, and the one
-- that it destroys is closed, with its delete_id written if the client made it
abbrev pub core_after : Core → Found → Core
core_after core f =
    with_following (owes_delete_id core f) (ended core f).id
    (with_view (past_found core f) (after event_side core.view (made_by_request core f.message)
    f.message.signature.destroys (ended core f).id))

-- nothing was announced yet to a new registry
abbrev pub registries_after : Core → List Registry → Option NewObject → List Registry
registries_after core registries None = registries
registries_after core registries (Some m) =
    with_registry m.iface (untold (record { id = m.id; birth = core.view.client.births }))
    registries

abbrev pub state_past : State → Found → State
state_past state f = record state {
  core = core_after state.core f;
  registries = without_object (destroys_it f.message) (ended state.core f)
      (registries_after state.core state.registries (made_by_request state.core f.message));
}

-- ---- reading the next message, if no memory is needed

-- whether a report needs memory, for its arguments
abbrev pub needs_memory : Report → Bool
needs_memory report = not (is_empty_list report.args)

-- whether the outbox lacks room for the delete_id that must follow the request
abbrev pub is_out_full : Core → Found → Bool
is_out_full core f = owes_delete_id core f && nat_lt (room_of core.outbox) delete_id_len

-- More can be read after any request.
abbrev pub is_last : Report → Bool
is_last report = false

-- whether the first message opens an object
abbrev pub request_opens : Core → Result (Option Found) Fault → Bool
request_opens core (Ok (Some f)) = is_some (made_by_request core f.message)
request_opens core _ = false

abbrev pub server_role : Role State Report
server_role = record {
  core = λ state. state.core;
  with_core = with_core;
  reads = request_side;
  in_front = request;
  is_full = is_out_full;
  report = report;
  past = state_past;
  failing = after_fault;
  is_last = is_last;
  wants = needs_memory;
  opens = λ state. request_opens state.core (request state);
}

-- What `next` returns: the report of the first message, nothing if it is not whole, or why it
-- cannot be read.
abbrev pub next_answer : State → Result (Option Report) NextError
next_answer state = role_answer server_role state

-- The state that `next` leaves.
abbrev pub after_next : State → State
after_next state = role_after server_role state

-- What `next_owned` returns if memory can be refused: the same, except that it may be out of memory
-- for a report that needs some. A request that opens an object has such a report.
abbrev pub IsServerNext : State → Result (Option Report) NextError → Type 0
IsServerNext state result = IsReportNext server_role state result

-- The state that `next_unanswered` leaves: unchanged with a fault, and out of memory.
abbrev pub unless_fault : {R : Type 0} → State → State → Result R NextError → State
unless_fault before after (Err errors.Memory) = before
unless_fault before after (Err (errors.Fault fault offset)) = before
unless_fault before after result = after

-- The state that `next_answering` leaves: that of `next` if a fault is answered, else that of
-- `next_unanswered`.
abbrev pub after_answering : {R : Type 0} → Bool → State → Result R NextError → State
after_answering true before result = unless_memory before (after_next before) result
after_answering false before result = unless_fault before (after_next before) result
