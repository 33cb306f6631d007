-- What a report contains for C, apart from where it lies in memory.
use Rattle.std.specs.Prelude.{◌≡◌, ℕ, ℤ, pos, min, Bool, true, false, ◌&&◌, not, nat_eq}
use Rattle.std.specs.Prelude.{nat_lt, if◌then◌else◌, List, [], ◌∷◌, length, map, take, drop, Option}
use Rattle.std.specs.Prelude.{Some, None, is_some}
use Rattle.std.specs.declared.result.Result.{Result}
use Rattle.std.specs.declared.result.Result.TheVariants.{Ok, Err}
use Rattle.wl_wire.specs.Argument.{Int, Uint, Fixed, Str, Obj, New, NewNamed, Array, Fd}
use Rattle.wl_wire.specs.Word.{header_at}
use Rattle.wl_message.specs.Arrived.{Arrived, in_front}
use Rattle.wl_message.specs.Cut.{front_len}
use Rattle.wl_sigs.specs.Fixed.{registry}
use Rattle.wl_object_map.specs.declared.object.Object.{Object}
use Rattle.wl_object_map.specs.declared.object.Entry.{Entry}
use Rattle.wl_object_map.specs.Objects.{Objects, look}
use Rattle.wl_objects.specs.declared.argument.Named.{Named}
use Rattle.wl_objects.specs.declared.argument.Named.TheVariants as named_as
use Rattle.wl_objects.specs.declared.error.NextError.{NextError}
use Rattle.wl_objects.specs.declared.error.NextError.TheVariants as errors
use Rattle.wl_objects.specs.Reading.{Reported}
use Rattle.wl_objects.specs.Messages.{same_iface}
use Rattle.wl_client.specs.State.{State, global_of}
use Rattle.wl_client.specs.Reports as client
use Rattle.wl_server.specs.Requests as server
use Rattle.wl_server.specs.State as server_end
use Rattle.waywire_c.specs.declared.values.ReportArg.{ReportArg}
use Rattle.waywire_c.specs.declared.reports.Report.{Report}
use Rattle.waywire_c.specs.Statuses.{fault_place, fault_spelling}
use Rattle.waywire_c.specs.Values.{made_object, object_from_c}

abbrev pub no_object : Object
no_object = made_object None

-- ---- arguments

-- The contents of an argument of a report.
pub record ToldArg : Type 0 where
  pub kind : ℕ
  pub int : ℤ
  pub uint : ℕ
  pub object : Object
  pub length : ℕ

abbrev pub arg_told_by : ReportArg → ToldArg
arg_told_by arg = record {
  kind = arg.kind;
  int = arg.int;
  uint = arg.uint;
  object = object_from_c arg.object;
  length = arg.length;
}

abbrev pub arg_of_kind : ℕ → ToldArg
arg_of_kind kind = record { kind = kind; int = pos 0; uint = 0; object = no_object; length = 0 }

abbrev pub arg_named : Named → ToldArg
arg_named named_as.Null = arg_of_kind 7
arg_named (named_as.Live object) = record (arg_of_kind 6) { object = object }
arg_named (named_as.Dead object) = record (arg_of_kind 11) { object = object }

-- What is written for a reported argument.
abbrev pub arg_told : Reported → ToldArg
arg_told (Int z) = record (arg_of_kind 1) { int = z }
arg_told (Uint n) = record (arg_of_kind 2) { uint = n }
arg_told (Fixed z) = record (arg_of_kind 3) { int = z }
arg_told (Str (Some text)) = record (arg_of_kind 4) { length = length text }
arg_told (Str None) = arg_of_kind 5
arg_told (Obj object) = arg_named object
arg_told (New object) = record (arg_of_kind 8) { object = object }
arg_told (NewNamed iface version object) = record (arg_of_kind 12) {
  uint = version;
  object = object;
  length = length iface;
}
arg_told (Array bytes) = record (arg_of_kind 9) { length = length bytes }
arg_told (Fd token) = record (arg_of_kind 10) { uint = token }

-- These arguments are written to the first slots, as far as there are slots; the other slots stay.
pub record TellsArgs (args : List Reported) (before after : List ReportArg) : Type 0 where
  pub first : map arg_told_by (take (min (length args) (length before)) after)
      ≡ map arg_told (take (min (length args) (length before)) args)
  pub rest : drop (min (length args) (length before)) after
      ≡ drop (min (length args) (length before)) before

-- ---- reports

-- The contents of a report, except its arguments.
pub record ReportFields : Type 0 where
  pub kind : ℕ
  pub opcode : ℕ
  pub target : Object
  pub arg_count : ℕ
  pub token_count : ℕ
  pub id : ℕ
  pub code : ℕ
  pub named : ℕ
  pub spelling : ℕ
  pub text_length : ℕ
  pub place : ℕ
  pub offset : ℕ
  pub replaced : Object
  pub forgotten : Bool

abbrev pub told_by : Report → ReportFields
told_by report = record {
  kind = report.kind;
  opcode = report.opcode;
  target = object_from_c report.target;
  arg_count = report.arg_count;
  token_count = report.token_count;
  id = report.id;
  code = report.code;
  named = report.named;
  spelling = report.spelling;
  text_length = report.text_length;
  place = report.place;
  offset = report.offset;
  replaced = object_from_c report.replaced;
  forgotten = report.forgotten;
}

abbrev pub fields_of_kind : ℕ → ReportFields
fields_of_kind kind = record {
  kind = kind;
  opcode = 0;
  target = no_object;
  arg_count = 0;
  token_count = 0;
  id = 0;
  code = 0;
  named = 0;
  spelling = 0;
  text_length = 0;
  place = 0;
  offset = 0;
  replaced = no_object;
  forgotten = false;
}

-- for the reason that no message was read
abbrev pub told_unread : NextError → ReportFields
told_unread (errors.Fault fault offset) = record (fields_of_kind 6) {
  spelling = fault_spelling fault;
  place = fault_place fault;
  offset = offset;
}
told_unread _ = fields_of_kind 0

-- the same if a fault is left to the caller, given the bytes of its message: all, or the header
-- alone
abbrev pub told_left : NextError → List ℕ → ReportFields
told_left (errors.Fault fault offset) message =
    if nat_lt (length message) 8 then told_unread (errors.Fault fault offset)
    else record (told_unread (errors.Fault fault offset)) {
      id = (header_at message).object;
      opcode = (header_at message).opcode;
      text_length = length message;
    }
told_left why message = told_unread why

-- for a message to a live object, with room for this many arguments
abbrev pub told_message : ℕ → Object → ℕ → List Reported → ReportFields
told_message room target opcode args = record (fields_of_kind 1) {
  opcode = opcode;
  target = target;
  arg_count = min (length args) room;
}

-- What is reported about what a client read.
abbrev pub told_incoming : ℕ → client.Report → ReportFields
told_incoming room (client.Event target opcode args) = told_message room target opcode args
told_incoming room (client.Discarded target opcode tokens) = record (fields_of_kind 2) {
  opcode = opcode;
  target = target;
  token_count = length tokens;
}
told_incoming room (client.Deleted object) = record (fields_of_kind 3) { target = object }
told_incoming room (client.Stray id) = record (fields_of_kind 4) { id = id }
told_incoming room (client.Error id named code text) = record (fields_of_kind 5) {
  id = id;
  code = code;
  named = (arg_named named).kind;
  target = (arg_named named).object;
  text_length = length text;
}

abbrev pub args_of_event : client.Report → List Reported
args_of_event (client.Event target opcode args) = args
args_of_event _ = []

-- The interface, by its index, and the version that a report gives for the object that it is about.
pub record ToldEntry : Type 0 where
  pub interface : ℕ
  pub version : ℕ

abbrev pub entry_told_by : Report → ToldEntry
entry_told_by report = record { interface = report.interface; version = report.version }

-- what is reported about an entry; zeros if there is none
abbrev pub entry_told : Option Entry → ToldEntry
entry_told None = record { interface = 0; version = 0 }
entry_told (Some entry) = record { interface = entry.iface.0; version = entry.version }

-- the entry of the object that a client's report is about, given the objects before it
abbrev pub event_entry : Objects → Result (Option client.Report) NextError → Option Entry
event_entry view (Ok (Some report)) = client.entry_of view report
event_entry view _ = None

-- ---- a global that is announced to a client

abbrev pub is_registry_entry : Option Entry → Bool
is_registry_entry None = false
is_registry_entry (Some entry) = same_iface entry.iface registry

abbrev pub name_told : List Reported → Option ℕ
name_told (Uint name ∷ args) = Some name
name_told _ = None

-- the name in wl_registry.global, given the entry of the object that the report is about
abbrev pub told_global_name : Option Entry → client.Report → Option ℕ
told_global_name entry (client.Event target opcode args) =
    if is_registry_entry entry && nat_eq opcode 0 then name_told args else None
told_global_name entry _ = None

-- whether a global with this name was announced to a client in this state, and the client does not
-- remember it
abbrev pub is_forgotten : State → Option ℕ → Bool
is_forgotten state None = false
is_forgotten state (Some name) = not (is_some (global_of state.globals name))

-- The fields of a client's report, from its states before and after; they include the live object
-- that a new one replaced, and whether a global was announced that the client then does not
-- remember.
abbrev pub told_event_by : ℕ → State → State → Result (Option client.Report) NextError
    → ReportFields
told_event_by room before after (Err why) = told_unread why
told_event_by room before after (Ok None) = fields_of_kind 0
told_event_by room before after (Ok (Some report)) = record (told_incoming room report) {
  replaced = made_object after.replaced;
  forgotten = is_forgotten after (told_global_name (client.entry_of before.core.view report)
      report);
}

-- What is reported about what a client in this state reads.
abbrev pub told_event : ℕ → State → ReportFields
told_event room state =
    told_event_by room state (client.after_next state) (client.next_answer state)

abbrev pub event_args : Result (Option client.Report) NextError → List Reported
event_args (Ok (Some report)) = args_of_event report
event_args _ = []

-- What is reported about what a server read.
abbrev pub told_request : ℕ → Result (Option server.Report) NextError → ReportFields
told_request room (Err why) = told_unread why
told_request room (Ok None) = fields_of_kind 0
told_request room (Ok (Some report)) =
    told_message room report.target report.opcode report.args

-- the entry of a request's target
abbrev pub request_entry : Objects → Result (Option server.Report) NextError → Option Entry
request_entry view (Ok (Some report)) = look view report.target.id
request_entry view _ = None

abbrev pub request_args : Result (Option server.Report) NextError → List Reported
request_args (Ok (Some report)) = report.args
request_args _ = []

-- the bytes of the message at the front of what waits: all, or the header alone if its size is bad
abbrev pub front_of : Arrived → List ℕ
front_of inbox = take (front_len (in_front inbox)) inbox.bytes

abbrev pub told_unanswered_by : ℕ → server_end.State → Result (Option server.Report) NextError
    → ReportFields
told_unanswered_by room state (Err why) = told_left why (front_of state.core.inbox)
told_unanswered_by room state (Ok report) = told_request room (Ok report)

-- What is reported about what a server in this state reads, if a fault is left to the caller.
abbrev pub told_unanswered : ℕ → server_end.State → ReportFields
told_unanswered room state = told_unanswered_by room state (server.next_answer state)

-- What is reported about what a server in this state reads, if a fault is answered, or left to the
-- caller.
abbrev pub told_answering : Bool → ℕ → server_end.State → ReportFields
told_answering true room state = told_request room (server.next_answer state)
told_answering false room state = told_unanswered room state
