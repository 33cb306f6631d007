use Rattle.std.proofs.Common.{[], ◌∷◌, refl}
use Rattle.wl_wire.specs.Argument.{Uint}
use Rattle.theory_connection.specs.Pair.{ServerSend}
use Rattle.program_demo.specs.Moves.{the_callback}
use Rattle.program_socket.specs.Streams.{known_stream}
use Rattle.program_socket.specs.Sessions.{connected}
use Rattle.program_socket.proofs.Plays.{ends_call}
use Rattle.program_socket.proofs.session.Session.finish_callback.Goals as goal

pub returns : goal.returns
returns g c =
    let client = known_stream g.C.Read.remaining g.C.Write.contents in
    let server = known_stream g.S.Read.remaining g.S.Write.contents in
    let start = connected c.args.self.now in
    ends_call client server c.send_event.result _ (ServerSend the_callback 0 (Uint 1 ∷ [])) start
    (connected c.send_event.new.self) refl c.send_event.ensures
