-- What a client's calls write.
use Rattle.std.specs.Prelude.{◌≡◌, ℕ, List, [], ◌∷◌, ◌++◌}
use Rattle.wl_sigs.specs.Side.TheVariants.{Request}
use Rattle.wl_object_map.specs.declared.object.Object.{Object}
use Rattle.wl_objects.specs.Writing.{Given}
use Rattle.wl_connection.specs.Sending.{after_send}
use Rattle.wl_client.specs.Calls.{after_bind}
use Rattle.wl_client.specs.State.{State}
use Rattle.theory_connection.specs.Meant.{Known, Message, spelled_meant}
use Rattle.theory_connection.specs.Flight.{client_rows}
use Rattle.theory_peers.specs.FollowsClient.{MayBeAsked, after_asking}

-- A request that the client sends is one that it may write in a run. Then the client has the
-- objects that the run says.
pub record SendsRequestAsStep (state : State) (target : Object) (opcode : ℕ) (given : List Given)
    : Type 0
  where
    pub request : Message Known
    pub may : MayBeAsked state.core.tables (client_rows state.core.view) state.globals request
    pub rows : client_rows (after_send state.core Request target opcode given).view
        ≡ after_asking (client_rows state.core.view) request
    pub writes : (after_send state.core Request target opcode given).outbox.messages
        ≡ state.core.outbox.messages ++ spelled_meant request ∷ []

-- The same for a bind. The client remembers the same globals.
pub record BindsAsStep (state : State) (target : Object) (name : ℕ) (iface : List ℕ) (version : ℕ)
    : Type 0
  where
    pub request : Message Known
    pub may : MayBeAsked state.core.tables (client_rows state.core.view) state.globals request
    pub rows : client_rows (after_bind state target name iface version).core.view
        ≡ after_asking (client_rows state.core.view) request
    pub writes : (after_bind state target name iface version).core.outbox.messages
        ≡ state.core.outbox.messages ++ spelled_meant request ∷ []
    pub globals : (after_bind state target name iface version).globals ≡ state.globals
