-- How a session over two streams ends, and what is shown for it.
use Rattle.std.specs.Prelude.{◌≡◌, ◌↔◌, ℕ, Bool, true, IsTrue, List, ◌++◌, Option}
use Rattle.std.specs.Prelude.{codes}
use Rattle.wl_sigs.specs.Tables.{Interface}
use Rattle.wl_recording.specs.Piece.{Piece}
use Rattle.wl_message.specs.Cut.{usual_limit}
use Rattle.wl_check.specs.Session.{session_of}
use Rattle.wl_check.specs.Trace.{trace_of}
use Rattle.theory_connection.specs.Runs.{Agree}
use Rattle.wl_session.specs.Room.{HaveSameRows, NoEventMakes, client_count, object_count}
use Rattle.program_demo.specs.Agreement.{agreement_line}
use Rattle.program_socket.specs.Streams.{KnownStream, Connected}
use Rattle.program_socket.specs.Playing.{PlaysOver, socket_steps, begin}
use Rattle.program_socket.specs.declared.error.SocketError.{SocketError}
use Rattle.program_socket.specs.declared.error.SocketError.TheVariants as socket_error

-- the text of the errors
abbrev pub socket_error_text : SocketError → List ℕ
socket_error_text socket_error.Failed = codes "socket failed"
socket_error_text socket_error.Memory = codes "out of memory"

-- The session was played over these two streams, starting with new ends. These pieces passed;
-- `agree` says whether the two resulting ends have the same objects, and `objects` how many.
pub record Ends {C S : Type 0} (c : KnownStream C) (s : KnownStream S) (tables : List Interface)
    (client_stream : C) (server_stream : S) (pieces : List Piece) (agree : Bool) (objects : ℕ)
    : Type 0 where
  pub last : Connected C S
  pub played : PlaysOver c s (socket_steps tables) (begin tables client_stream server_stream) last
  pub passed : pieces ≡ last.pair.recording
  pub exact : IsTrue agree ↔ Agree last.pair.client.core.view last.pair.server.core.view
  pub counted : objects ≡ object_count last.pair.client.core.view last.pair.server.core.view
  -- if no event of the tables makes an object: whether both have the same rows, and the number is
  -- that of the client's objects
  pub rows : NoEventMakes last.pair.client.core last.pair.server.core
      → IsTrue agree ↔ HaveSameRows last.pair.client.core.view last.pair.server.core.view
  pub of_client : NoEventMakes last.pair.client.core last.pair.server.core
      → objects ≡ client_count last.pair.client.core.view

-- The text is the trace of what passed in the session over these two streams, and a last line,
-- which says that both ends then have the same objects, and how many.
pub record ShowsSession {C S : Type 0} (c : KnownStream C) (s : KnownStream S)
    (tables : List Interface)
    (client_stream : C) (server_stream : S) (text : List ℕ) : Type 0 where
  pub pieces : List Piece
  pub objects : ℕ
  pub ends : Ends c s tables client_stream server_stream pieces true objects
  pub whole : text ≡ trace_of tables (session_of usual_limit pieces) ++ agreement_line true objects

-- what is known about a stream at one time
pub record StreamState : Type 0 where
  pub left : Option (List ℕ)
  pub taken : Option (List ℕ)

abbrev pub by_itself : KnownStream StreamState
by_itself = record { left = λ told. told.left; taken = λ told. told.taken }

-- The text is what is shown for the session over some two streams about which this is known.
abbrev pub IsShownOverStreams : List Interface → List ℕ → Type 0
IsShownOverStreams tables text =
    (client_stream : StreamState) × ((server_stream : StreamState)
    × ShowsSession by_itself by_itself tables client_stream server_stream text)
