-- The bytes of a request, and how the server reads them.
use Rattle.std.specs.Prelude.{◌≡◌, ℕ, ◌≤◌, ◌++◌, List, map, Some}
use Rattle.std.specs.declared.result.Result.TheVariants.{Ok}
use Rattle.wl_wire.specs.declared.header.Header.{Header}
use Rattle.wl_sigs.specs.Side.TheVariants.{Request}
use Rattle.wl_sigs.specs.Tables.{Interface, MessageSignature, descriptors, signature_at}
use Rattle.wl_object_map.specs.declared.object.Entry.{Entry}
use Rattle.wl_object_map.specs.Objects.{Objects, look}
use Rattle.wl_objects.specs.Messages.{reader_of, received}
use Rattle.wl_objects.specs.Spelling.{SpellsAll}
use Rattle.wl_connection.specs.Receiving.{Found}
use Rattle.wl_server.specs.Requests.{request, state_past}
use Rattle.wl_server.specs.State.{State}
use Rattle.theory_connection.specs.Meant.{Known, Message, born_of_entry, spelled_coming, wire}
use Rattle.theory_connection.specs.World.{answer}
use Rattle.theory_connection.specs.Flight.{server_rows}
use Rattle.theory_connection.proofs.WholeInFlight.{id_maker}
use Rattle.theory_peers.specs.FollowsServer.{after_request}

-- A header and a body that spell this request, canonically or not, and enough tokens.
pub record IsSpelledBy (tables : List Interface) (m : Message Known) (header : Header)
    (body : List ℕ)
    (waiting : ℕ) : Type 0 where
  pub object : header.object ≡ m.target.id
  pub opcode : header.opcode ≡ m.opcode
  pub signature : MessageSignature
  pub there : signature_at tables m.target.born.iface.0 Request m.opcode ≡ Some signature
  pub spelled : SpellsAll signature.kinds (map wire m.args) body
  pub enough : descriptors signature.kinds ≤ waiting

-- A server with these objects reads them as this request, without a fault. Its object with the
-- target's id is the target. (A bind may still be refused, F9.)
pub record IsReadByServer (tables : List Interface) (view : Objects) (m : Message Known)
    (header : Header) (body : List ℕ) (waiting : ℕ) : Type 0 where
  pub entry : Entry
  pub there : look view m.target.id ≡ Some entry
  pub same : born_of_entry m.target.id entry ≡ m.target.born
  pub signature : MessageSignature
  pub signed : signature_at tables m.target.born.iface.0 Request m.opcode ≡ Some signature
  pub is : received tables Request (reader_of tables Request view) header body waiting
      ≡ Ok (record {
        target = record { id = m.target.id; birth = entry.birth };
        entry = entry;
        signature = signature;
        values = map wire m.args;
      })

-- A server in this state finds this request at the front of what waits, without a fault. After it
-- has taken the request, it has the objects that a run says, and has written the delete of an
-- object of the client that the request destroys.
pub record ReadsAsStep (state : State) (m : Message Known) : Type 0 where
  pub found : Found
  pub finds : request state ≡ Ok (Some found)
  pub rows : server_rows (state_past state found).core.view
      ≡ after_request (server_rows state.core.view) m
  pub writes : (state_past state found).core.outbox.messages
      ≡ state.core.outbox.messages ++ map spelled_coming (answer id_maker m.ends)
