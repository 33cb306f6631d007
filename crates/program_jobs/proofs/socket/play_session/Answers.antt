use Rattle.std.proofs.Common.{List, subst}
use Rattle.wl_sigs.specs.Tables.{Interface}
use Rattle.program_socket.specs.Streams.{known_stream}
use Rattle.program_socket.specs.Socket.{IsShownOverStreams}
use Rattle.program_socket.proofs.Known.{shown_over_streams}
use Rattle.program_jobs.proofs.socket.play_session.Goals as goal

-- what the session over the two streams shows
pub returns-clause-shows : goal.returns-clause-shows
returns-clause-shows g c =
    let stream = known_stream g.B.Stream.Read.remaining g.B.Stream.Write.contents in
    subst (λ (tables : List Interface). IsShownOverStreams tables c.in_ok-socket_text.field-0.items)
    c.in_ok-core.ensures.holds
    (shown_over_streams stream stream c.in_ok-core.field-0 c.in_ok-client.client c.in_ok-server.server
    c.in_ok-socket_text.field-0.items c.in_ok-socket_text.ensures)
