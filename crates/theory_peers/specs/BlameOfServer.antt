-- A session between a client and any server, as far as the client is concerned.
use Rattle.std.specs.Prelude.{◌≡◌, ℕ, List, ◌∷◌, length, slice_get, Some}
use Rattle.wl_sigs.specs.Tables.{Interface}
use Rattle.wl_client.specs.declared.globals.Global.{Global}
use Rattle.wl_recording.specs.declared.piece.Direction.TheVariants.{ToServer}
use Rattle.wl_check.specs.declared.frames.FramedMessage.{FramedMessage}
use Rattle.wl_check.specs.Session.{Session}
use Rattle.theory_connection.specs.Meant.{Known, Message, spelled_meant}
use Rattle.theory_connection.specs.World.{Row}
use Rattle.theory_connection.specs.Flight.{Rows}
use Rattle.theory_recording.specs.Follows.{knowledge}
use Rattle.theory_peers.specs.AcceptedEvent.{ServerMessage}
use Rattle.theory_peers.specs.Blame.{messages_before}
use Rattle.theory_peers.specs.ClientRun.{ClientRun}
use Rattle.theory_peers.specs.FollowsServer.{IsPlacedIn}

-- A message of a session is what the client wrote first of these.
pub record IsAskedFirst (tables : List Interface) (session : Session) (place : ℕ)
    (frame : FramedMessage) (asked : List (Message Known)) : Type 0 where
  pub request : Message Known
  pub others : List (Message Known)
  pub first : asked ≡ request ∷ others
  pub size : frame.size ≡ length (spelled_meant request).bytes
  pub placed : IsPlacedIn session.limit (session.streams ToServer) frame.start
      ((knowledge tables (messages_before tables session place)).taken ToServer) frame.tokens
      (spelled_meant request)

-- Up to a place, the session is that of a run of a client: the messages before the place are those
-- of the run, and a message to the server at the place is what the client wrote first of what is
-- not recorded before.
pub record IsFromClient (tables : List Interface) (session : Session) (place : ℕ) : Type 0 where
  pub asked : List (Message Known)
  pub told : List ServerMessage
  pub client : Rows Row
  pub remembered : List Global
  pub run : ClientRun session.limit tables (messages_before tables session place) asked told client
      remembered
  pub next : (frame : FramedMessage) → slice_get session.frames place ≡ Some frame
      → frame.direction ≡ ToServer → IsAskedFirst tables session place frame asked
