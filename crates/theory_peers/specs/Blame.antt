-- A session between a server and any client, as far as the server is concerned.
use Rattle.std.specs.Prelude.{◌≡◌, ℕ, List, ◌∷◌, length, take, slice_get, Some}
use Rattle.wl_sigs.specs.Tables.{Interface}
use Rattle.wl_recording.specs.declared.piece.Direction.TheVariants.{ToClient}
use Rattle.wl_check.specs.declared.frames.FramedMessage.{FramedMessage}
use Rattle.wl_check.specs.Session.{Judged, Session, messages}
use Rattle.theory_connection.specs.Meant.{Born, Known, Message, Coming, spelled_coming}
use Rattle.theory_connection.specs.Flight.{Rows}
use Rattle.theory_recording.specs.Follows.{knowledge}
use Rattle.theory_peers.specs.FollowsServer.{IsPlacedIn}
use Rattle.theory_peers.specs.ServerRun.{ServerRun}

-- the judged messages before a place of a session
abbrev pub messages_before : List Interface → Session → ℕ → List Judged
messages_before tables session place = take place (messages tables session)

-- A message of a session is what the server wrote first of these.
pub record IsWrittenFirst (tables : List Interface) (session : Session) (place : ℕ)
    (frame : FramedMessage) (told : List (Coming Known)) : Type 0 where
  pub coming : Coming Known
  pub others : List (Coming Known)
  pub first : told ≡ coming ∷ others
  pub size : frame.size ≡ length (spelled_coming coming).bytes
  pub placed : IsPlacedIn session.limit (session.streams ToClient) frame.start
      ((knowledge tables (messages_before tables session place)).taken ToClient) frame.tokens
      (spelled_coming coming)

-- Up to a place, the session is that of a run of a server: the messages before the place are those
-- of the run, and a message to the client at the place is what the server wrote first of what is
-- not recorded before.
pub record IsFromServer (tables : List Interface) (session : Session) (place : ℕ) : Type 0 where
  pub asked : List (Message Known)
  pub told : List (Coming Known)
  pub server : Rows Born
  pub run : ServerRun session.limit tables (messages_before tables session place) asked told server
  pub next : (frame : FramedMessage) → slice_get session.frames place ≡ Some frame
      → frame.direction ≡ ToClient → IsWrittenFirst tables session place frame told
