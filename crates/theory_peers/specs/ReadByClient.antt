-- The bytes of an event, and how the client reads them.
use Rattle.std.specs.Prelude.{◌≡◌, ℕ, ◌≤◌, false, List, map, Some}
use Rattle.std.specs.declared.result.Result.TheVariants.{Ok}
use Rattle.wl_wire.specs.declared.header.Header.{Header}
use Rattle.wl_sigs.specs.Side.TheVariants.{Event as event_side}
use Rattle.wl_sigs.specs.Tables.{Interface, MessageSignature, descriptors, signature_at}
use Rattle.wl_object_map.specs.declared.object.Entry.{Entry}
use Rattle.wl_object_map.specs.Objects.{Objects, look}
use Rattle.wl_objects.specs.Messages.{is_delete_id, reader_of, received}
use Rattle.wl_objects.specs.Spelling.{SpellsAll}
use Rattle.wl_connection.specs.Receiving.{Found, found}
use Rattle.wl_client.specs.Reports.{Deleted, plain_report, report, state_past}
use Rattle.wl_client.specs.State.{State}
use Rattle.theory_connection.specs.Meant.{Message, Known, born_of_entry}
use Rattle.theory_connection.specs.Meant.{objects, wire}
use Rattle.theory_connection.specs.World.{Each, IfThere}
use Rattle.theory_connection.specs.Flight.{IsHeldInRows, client_rows}
use Rattle.theory_peers.specs.AcceptedEvent.{ServerMessage}
use Rattle.theory_peers.specs.FollowsClient.{after_learning, after_telling}

-- A header and a body that spell this event, canonically or not, and enough tokens.
pub record SpellsEvent (tables : List Interface) (m : Message Known) (header : Header)
    (body : List ℕ)
    (waiting : ℕ) : Type 0 where
  pub object : header.object ≡ m.target.id
  pub opcode : header.opcode ≡ m.opcode
  pub signature : MessageSignature
  pub there : signature_at tables m.target.born.iface.0 event_side m.opcode ≡ Some signature
  pub spelled : SpellsAll signature.kinds (map wire m.args) body
  pub enough : descriptors signature.kinds ≤ waiting

-- A client with these objects reads them as this event, without a fault. Its object with the
-- target's id is the target, and its objects with the ids of the arguments are those that were
-- meant.
pub record IsReadByClient (tables : List Interface) (view : Objects) (m : Message Known)
    (header : Header) (body : List ℕ) (waiting : ℕ) : Type 0 where
  pub entry : Entry
  pub there : look view m.target.id ≡ Some entry
  pub same : born_of_entry m.target.id entry ≡ m.target.born
  pub named : Each (IsHeldInRows (client_rows view)) (objects m.args)
  pub signature : MessageSignature
  pub signed : signature_at tables m.target.born.iface.0 event_side m.opcode ≡ Some signature
  pub is : received tables event_side (reader_of tables event_side view) header body waiting
      ≡ Ok (record {
        target = record { id = m.target.id; birth = entry.birth };
        entry = entry;
        signature = signature;
        values = map wire m.args;
      })

-- A client in this state finds this event at the front of what waits, without a fault, with the
-- target and the arguments that were meant. What it reports is the event, or the delete of the
-- object that a delete_id takes back. After it has taken the event, it has the objects and
-- remembers the globals that a run says, it has written nothing, and it has not failed.
pub record ReadsAsClientStep (state : State) (s : ServerMessage) : Type 0 where
  pub it : Found
  pub finds : found state.core event_side ≡ Ok (Some it)
  pub entry : Entry
  pub there : look state.core.view s.event.target.id ≡ Some entry
  pub same : born_of_entry s.event.target.id entry ≡ s.event.target.born
  pub target : it.message.target ≡ record { id = s.event.target.id; birth = entry.birth }
  pub opcode : it.opcode ≡ s.event.opcode
  pub values : it.message.values ≡ map wire s.event.args
  pub named : Each (IsHeldInRows (client_rows state.core.view)) (objects s.event.args)
  pub reports : is_delete_id event_side s.event.target.born.iface s.event.opcode ≡ false
      → report state.core it ≡ plain_report state.core s.event.opcode it.message entry.state
  pub takes_back : IfThere (λ x. report state.core it
      ≡ Deleted (record { id = x.id; birth = x.born.birth.number })) s.takes_back
  pub rows : client_rows (state_past state it).core.view
      ≡ after_telling (client_rows state.core.view) s
  pub globals : (state_past state it).globals
      ≡ after_learning state.core.tables (client_rows state.core.view) s.event state.globals
  pub writes : (state_past state it).core.outbox ≡ state.core.outbox
  pub goes_on : (state_past state it).core.failed ≡ false
