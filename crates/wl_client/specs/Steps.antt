-- The steps in which a client reads a message.
use Rattle.std.specs.Prelude.{◌≡◌, ◌≢◌, ℕ, true, false, IsTrue, List, [], Option, Some, None}
use Rattle.wl_sigs.specs.Tables.{Interface}
use Rattle.wl_message.specs.Outgoing.{no_messages}
use Rattle.wl_objects.specs.declared.reading.Received.{Received as Read}
use Rattle.wl_sigs.specs.Fixed.{display}
use Rattle.wl_object_map.specs.declared.object.Object.{Object}
use Rattle.wl_object_map.specs.Ranges.{is_of_server}
use Rattle.wl_object_map.specs.Objects.{Objects, opening, is_held, has_room, closed, zombied}
use Rattle.wl_objects.specs.Messages.{NewObject, made, opens, server_may_use}
use Rattle.wl_objects.specs.Seen.{received_of}
use Rattle.wl_connection.specs.Core.{Core}
use Rattle.wl_connection.specs.Receiving.{Found}
use Rattle.wl_client.specs.declared.changes.ObjectChange.{ObjectChange}
use Rattle.wl_client.specs.declared.changes.ObjectChange.TheVariants as object_changes
use Rattle.wl_client.specs.declared.changes.GlobalChange.{GlobalChange}
use Rattle.wl_client.specs.declared.changes.GlobalChange.TheVariants as global_changes
use Rattle.wl_client.specs.declared.pending.PendingEvent.{PendingEvent}
use Rattle.wl_message.specs.Limits.{usual}
use Rattle.wl_client.specs.State.{State, Global}
use Rattle.wl_client.specs.Reports.{Report, report, view_after, globals_after, forgotten}
use Rattle.wl_client.specs.Reports.{remembered}

-- an end with these tables and objects, and with these tokens waiting
abbrev pub end_with : List Interface → Objects → List ℕ → Core
end_with tables view tokens = record {
  tables = tables;
  view = view;
  inbox = record {
    bytes = [];
    tokens = tokens;
    capacity = 0;
    token_capacity = 0;
    limit = usual;
    last = [];
    last_tokens = [];
  };
  outbox = no_messages 0 0 usual;
  failed = false;
  read = 0;
}

-- the message as it was found, apart from its size
abbrev pub found_as : ℕ → Read → Found
found_as opcode read = record { size = 0; opcode = opcode; message = received_of read }

abbrev pub client_state : Core → List Global → Option Object → Option Object → State
client_state core globals made replaced = record {
  core = core;
  globals = globals;
  made = made;
  replaced = replaced;
}

-- the report of a message, given these tables, objects and tokens
abbrev pub report_by : List Interface → Objects → List ℕ → Found → Report
report_by tables view tokens f = report (end_with tables view tokens) f

-- the object that a message makes, if it makes one
abbrev pub made_by_found : List Interface → Found → Option NewObject
made_by_found tables f =
    made tables f.message.entry.version f.message.signature.kinds f.message.values

-- the objects after a message
abbrev pub view_by : List Interface → Objects → Found → Objects
view_by tables view f = view_after (end_with tables view []) f

-- the globals after a message
abbrev pub globals_by : List Interface → List Global → Found → List Global
globals_by tables globals f =
    globals_after (client_state (end_with tables (opening display true) []) globals None None) f

-- what a message makes can be opened: at an id that is free for an object of the server, and within
-- the limits
abbrev pub CanOpen : List Interface → Objects → Option NewObject → Type 0
CanOpen tables view None = Unit {0}
CanOpen tables view (Some m) =
    IsTrue (server_may_use tables view m.id) × IsTrue (has_room view m.id)

-- the objects after a change
abbrev pub changed : Objects → ObjectChange → Objects
changed view object_changes.Nothing = view
changed view (object_changes.Zombie id) = zombied view id
changed view (object_changes.Close id) = closed view id

-- the objects after an event; what it makes is opened first
abbrev pub view_stepped : Objects → PendingEvent → Objects
view_stepped view event = changed (opens view event.change.made) event.change.objects

-- the change can be made: its object exists and is not wl_display, and no id of the server's range
-- is freed
abbrev pub CanChange : Objects → ObjectChange → Type 0
CanChange view object_changes.Nothing = Unit {0}
CanChange view (object_changes.Zombie id) = IsTrue (is_held view id) × (id ≢ 1)
CanChange view (object_changes.Close id) =
    IsTrue (is_held view id) × (id ≢ 1) × (is_of_server id ≡ false)

-- the globals after a change to them
abbrev pub with_global_change : List Global → GlobalChange → List Global
with_global_change globals global_changes.Nothing = globals
with_global_change globals (global_changes.Forget name) = forgotten name globals
with_global_change globals (global_changes.Remember global) = remembered global globals
