-- What is played over two streams is played over what is known about them.
use Rattle.std.proofs.Common.{List, ℕ, [], ◌∷◌, ap}
use Rattle.wl_sigs.specs.Tables.{Interface}
use Rattle.program_socket.specs.Streams.{KnownStream, Connected}
use Rattle.program_socket.specs.Playing.{SocketStep, Call, ClientTurn, ServerTurn, PlaysPart, PlaysOver, begin}
use Rattle.program_socket.specs.Playing.{socket_steps}
use Rattle.program_socket.specs.Socket.{ShowsSession, StreamState, by_itself, IsShownOverStreams}

abbrev pub told : {X : Type 0} → KnownStream X → X → StreamState
told k x = record { left = k.left x; taken = k.taken x }

abbrev pub all_told : {C S : Type 0} → KnownStream C → KnownStream S → Connected C S → Connected StreamState StreamState
all_told c s now = record {
  pair = now.pair;
  client_stream = told c now.client_stream;
  server_stream = told s now.server_stream;
}

part_told : {C S : Type 0} (c : KnownStream C) (s : KnownStream S) (part : SocketStep) (now next : Connected C S)
    → PlaysPart c s part now next → PlaysPart by_itself by_itself part (all_told c s now) (all_told c s next)
part_told c s (Call move) now next h = record {
  reply = h.reply;
  accepted = h.accepted;
  does = h.does;
  client_stream = ap (told c) h.client_stream;
  server_stream = ap (told s) h.server_stream;
}
part_told c s ClientTurn now next h = record {
  bytes = h.bytes;
  sends = h.sends;
  receives = h.receives;
  leaves = h.leaves;
}
part_told c s ServerTurn now next h = record {
  bytes = h.bytes;
  sends = h.sends;
  receives = h.receives;
  leaves = h.leaves;
}

parts_told : {C S : Type 0} (c : KnownStream C) (s : KnownStream S) (parts : List SocketStep) (now last : Connected C S)
    → PlaysOver c s parts now last → PlaysOver by_itself by_itself parts (all_told c s now) (all_told c s last)
parts_told c s [] now last h = ap (all_told c s) h
parts_told c s (part ∷ parts) now last (next, first, rest) =
    (all_told c s next, part_told c s part now next first, parts_told c s parts next last rest)

pub shown_over_streams : {C S : Type 0} (c : KnownStream C) (s : KnownStream S) (tables : List Interface)
    (client_stream : C)
    (server_stream : S) (text : List ℕ)
    → ShowsSession c s tables client_stream server_stream text → IsShownOverStreams tables text
shown_over_streams c s tables client_stream server_stream text shows = (
  told c client_stream,
  (
    told s server_stream,
    record {
      pieces = shows.pieces;
      objects = shows.objects;
      ends = record {
        last = all_told c s shows.ends.last;
        played = parts_told c s (socket_steps tables) (begin tables client_stream server_stream) shows.ends.last
            shows.ends.played;
        passed = shows.ends.passed;
        exact = shows.ends.exact;
        counted = shows.ends.counted;
        rows = shows.ends.rows;
        of_client = shows.ends.of_client;
      };
      whole = shows.whole;
    },
  ),
)
