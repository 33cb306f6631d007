-- What a server's calls write.
use Rattle.std.specs.Prelude.{◌≡◌, ℕ, false, List, [], ◌∷◌, ◌++◌, map, Some}
use Rattle.wl_sigs.specs.Side.TheVariants.{Event as event_side}
use Rattle.wl_sigs.specs.Tables.{Interface}
use Rattle.wl_object_map.specs.declared.object.Object.{Object}
use Rattle.wl_objects.specs.Writing.{Given}
use Rattle.wl_connection.specs.Core.{Core}
use Rattle.wl_connection.specs.Sending.{after_send}
use Rattle.wl_server.specs.Announcing.{after_announce}
use Rattle.wl_server.specs.Calls.{after_drop}
use Rattle.wl_server.specs.State.{State}
use Rattle.wl_check.specs.Changes.{is_global}
use Rattle.theory_connection.specs.Meant.{Born, Coming, Delete, Event, Known, Message}
use Rattle.theory_connection.specs.Meant.{spelled_coming}
use Rattle.theory_connection.specs.World.{Each, delete}
use Rattle.theory_connection.specs.Flight.{Rows, server_rows}
use Rattle.theory_connection.proofs.WholeInFlight.{server_ends}
use Rattle.theory_peers.specs.AnnouncedGlobals.{AnnouncesAdded}
use Rattle.theory_peers.specs.FollowsServer.{MayBeDropped, MayBeTold, after_event}

-- An event that the server sends is one that it may write in a run, with the delete of an object
-- that the event ends, and it is not wl_registry.global. Then the server has the objects that the
-- run says.
pub record SendsAsStep (core : Core) (target : Object) (opcode : ℕ) (given : List Given) : Type 0
  where
    pub message : Message Known
    pub may : MayBeTold core.tables (server_rows core.view) message
    pub no_global : is_global event_side message.target.born.iface message.opcode ≡ false
    pub rows : server_rows (after_send core event_side target opcode given).view
        ≡ after_event (server_rows core.view) message
    pub writes : (after_send core event_side target opcode given).outbox.messages
        ≡ core.outbox.messages ++ map spelled_coming (Event message ∷ delete message.ends)

-- An object that the server drops is one that it may drop in a run. Its delete is written, and then
-- the server has the objects that the run says.
pub record DropsAsStep (core : Core) (object : Object) : Type 0 where
  pub dropped : Known
  pub may : MayBeDropped core.tables (server_rows core.view) dropped
  pub rows : server_rows (after_drop core object).view
      ≡ server_ends (Some dropped) (server_rows core.view)
  pub writes : (after_drop core object).outbox.messages
      ≡ core.outbox.messages ++ spelled_coming (Delete dropped) ∷ []

-- events that the server may write one after another, and its objects after them
abbrev pub MayBeToldInTurn : List Interface → Rows Born → List (Message Known) → Type 0
MayBeToldInTurn tables server [] = Unit {0}
MayBeToldInTurn tables server (m ∷ events) =
    MayBeTold tables server m × MayBeToldInTurn tables (after_event server m) events

abbrev pub after_events : Rows Born → List (Message Known) → Rows Born
after_events server [] = server
after_events server (m ∷ events) = after_events (after_event server m) events

-- these events, each with the delete of an object that it ends
abbrev pub all_written : List (Message Known) → List (Coming Known)
all_written [] = []
all_written (m ∷ events) = (Event m ∷ delete m.ends) ++ all_written events

-- Events that the server announces are such ones, and announce only globals that it added. Then it
-- has the objects that the run says.
pub record AnnouncesAsSteps (state : State) (count : ℕ) : Type 0 where
  pub events : List (Message Known)
  pub may : MayBeToldInTurn state.core.tables (server_rows state.core.view) events
  pub added : Each (λ m. AnnouncesAdded state.core.tables state.globals (Event m)) events
  pub rows : server_rows (after_announce state count).core.view
      ≡ after_events (server_rows state.core.view) events
  pub writes : (after_announce state count).core.outbox.messages
      ≡ state.core.outbox.messages ++ map spelled_coming (all_written events)
