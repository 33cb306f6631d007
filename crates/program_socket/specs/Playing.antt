-- What it means to play the session over two streams.
use Rattle.std.specs.Prelude.{◌≡◌, ℕ, List, [], ◌∷◌, ◌++◌, length, map}
use Rattle.std.specs.declared.result.Result.TheVariants.{Ok}
use Rattle.wl_sigs.specs.Tables.{Interface}
use Rattle.wl_message.specs.Outgoing.{waiting_bytes}
use Rattle.wl_client.specs.State as client
use Rattle.wl_client.specs.Streams as events
use Rattle.wl_server.specs.State as server
use Rattle.wl_server.specs.Streams as requests
use Rattle.wl_recording.specs.declared.piece.Direction.TheVariants as ways
use Rattle.wl_recording.specs.Piece.{passed}
use Rattle.theory_connection.specs.Pair.{Move, Reply, ClientSend, ClientBind, ServerSend, AddGlobal}
use Rattle.theory_connection.specs.Pair.{Announce, Does, new_pair}
use Rattle.program_demo.specs.Moves.{adding_globals, getting_registry, announcing_globals}
use Rattle.program_demo.specs.Moves.{binding_globals, finishing_callback, drawing_surface}
use Rattle.program_demo.specs.Moves.{sizes}
use Rattle.program_socket.specs.Streams.{KnownStream, Connected, Sends, Receives}

-- the call was not refused, and there was memory for it
abbrev pub IsAccepted : Reply → Type 0
IsAccepted (ClientSend (Ok made)) = Unit {0}
IsAccepted (ClientBind (Ok made)) = Unit {0}
IsAccepted (ServerSend (Ok made)) = Unit {0}
IsAccepted (AddGlobal (Ok name)) = Unit {0}
IsAccepted (Announce (Ok count)) = Unit {0}
IsAccepted _ = ⊥

-- One of the ends makes a move as its call says, and accepts it. No stream is used.
pub record Accepts {C S : Type 0} (move : Move) (now next : Connected C S) : Type 0 where
  pub reply : Reply
  pub accepted : IsAccepted reply
  pub does : Does now.pair move reply next.pair
  pub client_stream : next.client_stream ≡ now.client_stream
  pub server_stream : next.server_stream ≡ now.server_stream

-- The client's turn: all that it has written goes into its stream, and the server's stream returns
-- as many bytes. These passed as one piece, and the server reads them.
pub record ToServer {C S : Type 0} (c : KnownStream C) (s : KnownStream S)
    (now next : Connected C S)
    : Type 0 where
  pub bytes : List ℕ
  pub sends : Sends now.pair.client.core (c.taken now.client_stream) next.pair.client.core
      (c.taken next.client_stream)
  pub receives : Receives requests.server_reading
      (length (waiting_bytes now.pair.client.core.outbox))
      bytes now.pair.server (s.left now.server_stream) next.pair.server
      (s.left next.server_stream)
  pub leaves : next.pair ≡ record now.pair {
    client = client.with_core now.pair.client next.pair.client.core;
    server = next.pair.server;
    recording = now.pair.recording ++ passed ways.ToServer bytes 0;
  }

-- the server's turn: the same in the other direction
pub record ToClient {C S : Type 0} (c : KnownStream C) (s : KnownStream S)
    (now next : Connected C S)
    : Type 0 where
  pub bytes : List ℕ
  pub sends : Sends now.pair.server.core (s.taken now.server_stream) next.pair.server.core
      (s.taken next.server_stream)
  pub receives : Receives events.client_reading (length (waiting_bytes now.pair.server.core.outbox))
      bytes now.pair.client (c.left now.client_stream) next.pair.client
      (c.left next.client_stream)
  pub leaves : next.pair ≡ record now.pair {
    client = next.pair.client;
    server = server.with_core now.pair.server next.pair.server.core;
    recording = now.pair.recording ++ passed ways.ToClient bytes 0;
  }

-- A part of the session: a call, or a turn of the client or of the server.
pub data SocketStep : Type 0 where
  Call : Move → SocketStep
  ClientTurn : SocketStep
  ServerTurn : SocketStep

-- The effect of a part. A turn writes to one stream and reads from the other; this may change what
-- the first will return and what the second has been given, since the other end answers.
abbrev pub PlaysPart : {C S : Type 0} → KnownStream C → KnownStream S → SocketStep → Connected C S
    → Connected C S
    → Type 0
PlaysPart c s (Call move) now next = Accepts move now next
PlaysPart c s ClientTurn now next = ToServer c s now next
PlaysPart c s ServerTurn now next = ToClient c s now next

-- These parts, one after another, lead from the one to the other.
abbrev pub PlaysOver : {C S : Type 0} → KnownStream C → KnownStream S → List SocketStep
    → Connected C S
    → Connected C S → Type 0
PlaysOver c s [] now last = now ≡ last
PlaysOver {C = C} {S = S} c s (part ∷ parts) now last =
    (next : Connected C S) × PlaysPart c s part now next × PlaysOver c s parts next last

abbrev pub calls : List Move → List SocketStep
calls moves = map Call moves

-- The calls of the demonstration. After the calls of one end, all that it has written goes to the
-- other.
abbrev pub socket_steps : List Interface → List SocketStep
socket_steps tables =
    calls (adding_globals tables)
    ++ calls getting_registry ++ ClientTurn ∷ []
    ++ calls announcing_globals ++ ServerTurn ∷ []
    ++ calls binding_globals ++ ClientTurn ∷ []
    ++ calls finishing_callback ++ ServerTurn ∷ []
    ++ calls drawing_surface ++ ClientTurn ∷ ServerTurn ∷ []

-- new ends with these tables, and two streams
abbrev pub begin : {C S : Type 0} → List Interface → C → S → Connected C S
begin tables client_stream server_stream = record {
  pair = new_pair tables sizes sizes;
  client_stream = client_stream;
  server_stream = server_stream;
}
