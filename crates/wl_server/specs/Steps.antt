-- How a server reads a request: what it finds at the front, and the state that the reading leaves.
use Rattle.std.specs.Prelude.{◌≡◌, ◌≢◌, ◌&&◌, not, ℕ, ◌≤◌, Bool, true, false, List, []}
use Rattle.std.specs.Prelude.{if◌then◌else◌, length, take, drop, Option, Some, None, IsTrue}
use Rattle.std.specs.declared.result.Result.{Result}
use Rattle.std.specs.declared.result.Result.TheVariants.{Ok, Err}
use Rattle.wl_sigs.specs.Destroys.{Destroys}
use Rattle.wl_sigs.specs.Destroys.TheVariants.{Nothing, Target, Arg}
use Rattle.wl_sigs.specs.Side.TheVariants.{Request as request_side}
use Rattle.wl_sigs.specs.Tables.{Interface, max_args}
use Rattle.wl_message.specs.Arrived.{in_front}
use Rattle.wl_message.specs.Cut.{Whole}
use Rattle.wl_object_map.specs.declared.object.Entry.{Entry}
use Rattle.wl_objects.specs.declared.error.Fault.{Fault}
use Rattle.wl_objects.specs.declared.error.Fault.TheVariants as faults
use Rattle.wl_objects.specs.declared.error.NextError.{NextError}
use Rattle.wl_objects.specs.declared.error.NextError.TheVariants as errors
use Rattle.wl_object_map.specs.declared.object.Object.{Object}
use Rattle.wl_object_map.specs.View.{free_or_next, has_room}
use Rattle.wl_object_map.specs.Objects.{Objects, look, closed}
use Rattle.wl_object_map.specs.Ranges.{is_of_server}
use Rattle.wl_objects.specs.Reading.{Reported}
use Rattle.wl_objects.specs.declared.parsed.ParsedArg.{ParsedArg}
use Rattle.wl_objects.specs.Parsed.{reported_in}
use Rattle.wl_objects.specs.Messages.{NewObject, Received, is_bind, made, opens}
use Rattle.wl_connection.specs.Core.{Core, past, with_view}
use Rattle.wl_connection.specs.Receiving.{Found, takes}
use Rattle.wl_connection.specs.Sending.{with_following, with_error_event, fits, delete_id_len}
use Rattle.wl_server.specs.declared.outline.Outline.{Outline}
use Rattle.wl_server.specs.declared.pending.PendingRequest.{PendingRequest}
use Rattle.wl_server.specs.State.{State, Global, Registry, with_core}
use Rattle.wl_server.specs.Requests.{Report, request, report, made_by_request, is_out_full}
use Rattle.wl_server.specs.Requests.{registries_after, ended_object, fault_code, fault_message}
use Rattle.wl_server.specs.Requests.{is_good_bind_of}
use Rattle.wl_server.specs.Registries.{without_object}

-- the meaning of a request: its report, its numbers of bytes and tokens, the object that it makes
-- and the birth of the next one, and the object that it destroys
pub record Step : Type 0 where
  pub report : Report
  pub size : ℕ
  pub tokens : ℕ
  pub birth : ℕ
  pub made : Option NewObject
  pub ended : Option Object

abbrev pub report_with : Object → ℕ → List Reported → Report
report_with target opcode args = record { target = target; opcode = opcode; args = args }

-- the object that a request destroys, if it destroys one
abbrev pub ended_by_request : Destroys → Report → Option Object
ended_by_request Nothing report = None
ended_by_request Target report = Some (ended_object Target report)
ended_by_request (Arg place) report = Some (ended_object (Arg place) report)

-- whether a request that destroys this object must be followed by a delete_id: the client made it
abbrev pub needs_delete_id : Option Object → Bool
needs_delete_id None = false
needs_delete_id (Some object) = not (is_of_server object.id)

abbrev pub step_of : Core → Found → Step
step_of core f = record {
  report = report core f;
  size = f.size;
  tokens = takes f.message;
  birth = core.view.client.births;
  made = made_by_request core f.message;
  ended = ended_by_request f.message.signature.destroys (report core f);
}

-- ---- a request that was read and not yet applied

-- the report that an outline gives with a message's body, its parsed arguments, and its tokens
abbrev pub outlined : List ℕ → List ParsedArg → List ℕ → Outline → Report
outlined body args tokens outline =
    report_with outline.target outline.opcode (reported_in body outline.birth tokens args)

-- the meaning of a pending request, from the message at the front of an end and its parsed
-- arguments
abbrev pub pending_in : Core → List ParsedArg → PendingRequest → Step
pending_in core args p = record {
  report =
      outlined (drop 8 (take p.size core.inbox.bytes)) args (take p.tokens core.inbox.tokens)
      p.outline;
  size = p.size;
  tokens = p.tokens;
  birth = p.outline.birth;
  made = p.change.made;
  ended = p.change.ended;
}

-- What is destroyed, from the parsed arguments; it does not depend on their bytes and tokens.
abbrev pub IsEndedBy : Received → List ParsedArg → Option Object → Type 0
IsEndedBy m args ended =
    (opcode birth : ℕ) (body tokens : List ℕ)
    → ended ≡ ended_by_request m.signature.destroys
    (report_with m.target opcode (reported_in body birth tokens args))

-- the meaning of a message that destroys this object, given the birth of a new one
abbrev pub pending_of : List Interface → ℕ → Option Object → Found → PendingRequest
pending_of tables birth ended f = record {
  outline = record { target = f.message.target; opcode = f.opcode; birth = birth };
  change = record {
    made = made tables f.message.entry.version f.message.signature.kinds f.message.values;
    ended = ended;
  };
  entry = f.message.entry;
  size = f.size;
  tokens = takes f.message;
}

-- A pending request describes what this message, with these parsed arguments, means and does, given
-- these tables and objects.
pub record IsPending (tables : List Interface) (view : Objects) (args : List ParsedArg) (f : Found)
    (p : PendingRequest) : Type 0 where
  pub ended : IsEndedBy f.message args p.change.ended
  pub same : p ≡ pending_of tables view.client.births p.change.ended f

-- whether a message is a bind that names no global that was ever advertised in this way
abbrev pub is_bad_bind : List Interface → List Global → ℕ → Received → Bool
is_bad_bind tables globals opcode message =
    is_bind request_side message.entry.iface opcode
    && not (is_good_bind_of tables globals message.values)

-- What a message means: a request, or a fault if it is a bad bind.
abbrev pub IsPendingOf : List Global → List Interface → Objects → List ℕ → List ParsedArg → Found
    → Result PendingRequest Fault → Type 0
IsPendingOf globals tables view body args f (Err fault) =
    (fault ≡ faults.BadBind) × (is_bad_bind tables globals f.opcode f.message ≡ true)
IsPendingOf globals tables view body args f (Ok p) =
    (is_bad_bind tables globals f.opcode f.message ≡ false) × IsPending tables view args f p

-- the report of a request at the front
abbrev pub front_report : Core → List ParsedArg → PendingRequest → Report
front_report core args p = (pending_in core args p).report

abbrev pub pendings_in : Core → List ParsedArg → Result (Option PendingRequest) NextError
    → Result (Option Step) NextError
pendings_in core args (Err why) = Err why
pendings_in core args (Ok None) = Ok None
pendings_in core args (Ok (Some p)) = Ok (Some (pending_in core args p))

-- the report of a request whose message the end applied last
abbrev pub applied_report : Core → List ParsedArg → PendingRequest → Report
applied_report core args p = outlined core.inbox.last args core.inbox.last_tokens p.outline

-- ---- what is at the front

-- a server
abbrev pub whole_state : ℕ → Core → List Global → List Registry → State
whole_state allowed core globals registries =
    record { core = core; globals = globals; registries = registries; allowed = allowed }

-- a server's state, as far as it determines what is at the front
abbrev pub server_state : Core → List Global → State
server_state core globals = whole_state 0 core globals []

abbrev pub step_found : Core → Result (Option Found) Fault → Result (Option Step) NextError
step_found core (Err fault) = Err (errors.Fault fault core.read)
step_found core (Ok None) = Ok None
step_found core (Ok (Some f)) =
    if is_out_full core f then Err errors.OutFull else Ok (Some (step_of core f))

-- the request at the front
abbrev pub front_step : State → Result (Option Step) NextError
front_step state = step_found state.core (request state)

-- an object has a row with its birth
pub record HasRow (view : Objects) (object : Object) : Type 0 where
  pub entry : Entry
  pub row : look view object.id ≡ Some entry
  pub birth : entry.birth ≡ object.birth

-- An object can be closed: it has a row with its birth and is not wl_display, and if the client
-- made it there is room for its delete_id.
pub record CanEnd (core : Core) (object : Object) : Type 0 where
  pub row : HasRow core.view object
  pub not_display : object.id ≢ 1
  pub room : is_of_server object.id ≡ false → IsTrue (fits core.outbox delete_id_len 0)

-- what is made can be opened: its id is free, and it is within the limits
abbrev pub HasFreeId : Objects → Option NewObject → Type 0
HasFreeId view None = Unit {0}
HasFreeId view (Some m) = IsTrue (free_or_next view.client m.id)
    × IsTrue (has_room view.client m.id)

-- A step can be applied: its message is at the front and its tokens wait, the next object gets its
-- birth, what it makes can be opened, and an object that it destroys can be closed.
pub record CanApply (core : Core) (step : Step) : Type 0 where
  pub whole : in_front core.inbox ≡ Whole step.size
  pub tokens : step.tokens ≤ length core.inbox.tokens
  pub few : step.tokens ≤ max_args
  pub birth : step.birth ≡ core.view.client.births
  pub made : HasFreeId core.view step.made
  pub ended : (object : Object) → step.ended ≡ Some object → CanEnd core object

-- the request at the front, unless the server has failed
abbrev pub checked_front : State → Result (Option Step) NextError
checked_front state = if state.core.failed then Err errors.Failed else front_step state

-- This request is the first at a server that has not failed.
pub record IsNextRequest (state : State) (args : List ParsedArg) (p : PendingRequest)
    : Type 0 where
  pub step : Ok (Some (pending_in state.core args p)) ≡ checked_front state
  pub can_apply : CanApply state.core (pending_in state.core args p)
  pub entry : look state.core.view p.outline.target.id ≡ Some p.entry

-- ---- the state after the reading

-- the end after the object that a request destroys was closed
abbrev pub core_without : Option Object → Core → Core
core_without None core = core
core_without (Some object) core =
    with_following (not (is_of_server object.id)) object.id
    (with_view core (closed core.view object.id))

-- the registries without that object
abbrev pub registries_without : Option Object → List Registry → List Registry
registries_without None registries = registries
registries_without (Some object) registries = without_object true object registries

-- the end after a request: its object is opened, the message taken, and what it destroys closed
abbrev pub core_by : Core → Step → Core
core_by core step =
    core_without step.ended
    (past (with_view core (opens core.view step.made)) step.size step.tokens)

-- the registries after a request
abbrev pub registries_by : Core → List Registry → Step → List Registry
registries_by core registries step =
    registries_without step.ended (registries_after core registries step.made)

abbrev pub after_step : State → Step → State
after_step state step = record state {
  core = core_by state.core step;
  registries = registries_by state.core state.registries step;
}

-- the end after the error event for a fault was written
abbrev pub core_told : Core → NextError → Core
core_told core (errors.Fault fault offset) =
    with_error_event core 1 (fault_code fault) (fault_message fault)
core_told core why = core

-- the same if faults are answered, else the end unchanged
abbrev pub told_if : Bool → Core → NextError → Core
told_if true core why = core_told core why
told_if false core why = core

-- the state that a read leaves, from the step at the front
abbrev pub after_front : State → Result (Option Step) NextError → State
after_front state (Ok None) = state
after_front state (Ok (Some step)) = after_step state step
after_front state (Err why) = with_core state (core_told state.core why)

-- what a read returns, from the step at the front
abbrev pub report_of_step : Result (Option Step) NextError → Result (Option Report) NextError
report_of_step (Ok None) = Ok None
report_of_step (Ok (Some step)) = Ok (Some step.report)
report_of_step (Err why) = Err why
