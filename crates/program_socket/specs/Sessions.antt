-- The code's own session, as two ends and their streams.
use Rattle.std.specs.Prelude.{None}
use Rattle.program_socket.specs.declared.session.Session.{Session}
use Rattle.program_socket.specs.Streams.{Connected}

-- no error is posted in the session
abbrev pub connected : {T C S A : Type 0} → Session T C S A → Connected C S
connected session = record {
  pair = record {
    client = session.client;
    server = session.server;
    recording = session.recording;
    ended_at = None;
  };
  client_stream = session.client_stream;
  server_stream = session.server_stream;
}
