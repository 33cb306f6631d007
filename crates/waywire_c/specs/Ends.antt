-- What a handle of an end leads to: the state of a client or of a server. What both have is stated
-- for either.
use Rattle.std.specs.Prelude.{◌≡◌, refl, ℕ, Bool, false, not, List}
use Rattle.wl_sigs.specs.Side.{Side}
use Rattle.wl_sigs.specs.Side.TheVariants.{Request, Event}
use Rattle.wl_sigs.specs.Rules.{has_server_objects}
use Rattle.wl_objects.specs.Reading.{Reported}
use Rattle.wl_connection.specs.Core.{Core}
use Rattle.wl_connection.specs.Reads.{IsCoreOf}
use Rattle.wl_connection.specs.Receiving.{found}
use Rattle.wl_client.specs.State as client
use Rattle.wl_client.specs.Reports as events
use Rattle.wl_server.specs.State as server
use Rattle.wl_server.specs.Requests as requests
use Rattle.waywire_c.specs.declared.held.HeldEnd.{HeldEnd}
use Rattle.waywire_c.specs.declared.held.HeldEnd.TheVariants.{Client, Server}
use Rattle.waywire_c.specs.Statuses.{read_outcome}
use Rattle.waywire_c.specs.Reports.{ReportFields, told_event, told_request, ToldEntry, entry_told}
use Rattle.waywire_c.specs.Reports.{event_entry, request_entry, event_args, request_args}

abbrev pub core_of : HeldEnd → Core
core_of (Client state) = state.core
core_of (Server state) = state.core

abbrev pub end_with_core : HeldEnd → Core → HeldEnd
end_with_core (Client state) core = Client (client.with_core state core)
end_with_core (Server state) core = Server (server.with_core state core)

pub core_kept : (end : HeldEnd) → end_with_core end (core_of end) ≡ end
core_kept (Client state) = refl
core_kept (Server state) = refl

pub core_new : (end : HeldEnd) (core : Core) → core_of (end_with_core end core) ≡ core
core_new (Client state) core = refl
core_new (Server state) core = refl

pub core_again : (end : HeldEnd) (core other : Core)
    → end_with_core (end_with_core end core) other ≡ end_with_core end other
core_again (Client state) core other = refl
core_again (Server state) core other = refl

abbrev pub end_laws : IsCoreOf core_of end_with_core
end_laws = record { kept = core_kept; new = core_new; again = core_again }

-- ---- what only one end has

-- if it is a client, this holds
abbrev pub IfClient : HeldEnd → (client.State → Type 0) → Type 0
IfClient (Client state) holds = holds state
IfClient (Server state) holds = Unit

-- if it is a server, this holds
abbrev pub IfServer : HeldEnd → (server.State → Type 0) → Type 0
IfServer (Client state) holds = Unit
IfServer (Server state) holds = holds state

-- ---- what an end writes and reads

-- whose messages it writes
abbrev pub writes : HeldEnd → Side
writes (Client state) = Request
writes (Server state) = Event

-- whether the message at the front of its waiting bytes opens an object
abbrev pub front_opens : HeldEnd → Bool
front_opens (Client state) = events.event_opens state.core (found state.core Event)
front_opens (Server state) = requests.request_opens state.core (requests.request state)

-- whether reading it needs no memory
abbrev pub takes_none : HeldEnd → Bool
takes_none (Client state) = not (has_server_objects state.core.tables)
takes_none (Server state) = false

-- the status of reading it
abbrev pub read_status : HeldEnd → ℕ
read_status (Client state) = read_outcome (events.next_answer state)
read_status (Server state) = read_outcome (requests.next_answer state)

-- what is reported about what it reads, with room for this many arguments
abbrev pub told_next : ℕ → HeldEnd → ReportFields
told_next room (Client state) = told_event room state
told_next room (Server state) = told_request room (requests.next_answer state)

abbrev pub next_entry : HeldEnd → ToldEntry
next_entry (Client state) =
    entry_told (event_entry state.core.view (events.next_answer state))
next_entry (Server state) =
    entry_told (request_entry state.core.view (requests.next_answer state))

abbrev pub next_args : HeldEnd → List Reported
next_args (Client state) = event_args (events.next_answer state)
next_args (Server state) = request_args (requests.next_answer state)

abbrev pub end_after_next : HeldEnd → HeldEnd
end_after_next (Client state) = Client (events.after_next state)
end_after_next (Server state) = Server (requests.after_next state)
