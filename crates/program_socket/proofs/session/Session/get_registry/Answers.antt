use Rattle.std.proofs.Common.{[], ◌∷◌, refl}
use Rattle.theory_connection.specs.Pair.{ClientSend}
use Rattle.program_demo.specs.Moves.{the_display, new_object}
use Rattle.program_socket.specs.Streams.{known_stream}
use Rattle.program_socket.specs.Sessions.{connected}
use Rattle.program_socket.proofs.Plays.{ends_call}
use Rattle.program_socket.proofs.session.Session.get_registry.Goals as goal

pub returns : goal.returns
returns g c =
    let client = known_stream g.C.Read.remaining g.C.Write.contents in
    let server = known_stream g.S.Read.remaining g.S.Write.contents in
    let start = connected c.args.self.now in
    ends_call client server c.send_request.result _ (ClientSend the_display 1 (new_object ∷ [])) start
    (connected c.send_request.new.self) refl c.send_request.ensures
