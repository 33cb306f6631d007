use Rattle.std.proofs.Common.{[], ◌∷◌, refl}
use Rattle.theory_connection.specs.Pair.{ClientSend}
use Rattle.program_demo.specs.Moves.{the_compositor, the_surface, new_object}
use Rattle.program_socket.specs.Streams.{known_stream}
use Rattle.program_socket.specs.Playing.{Call}
use Rattle.program_socket.specs.Sessions.{connected}
use Rattle.program_socket.proofs.Plays.{ends_call, plays_call, plays_then}
use Rattle.program_socket.proofs.session.Session.draw_surface.Goals as goal

pub returns : goal.returns
returns g c =
    let client = known_stream g.C.Read.remaining g.C.Write.contents in
    let server = known_stream g.S.Read.remaining g.S.Write.contents in
    let start = connected c.args.self.now in
    let made = connected c.send_request.new.self in
    let committed = connected c.send_request-2.new.self in
    let last = connected c.send_request-3.new.self in
    plays_then client server c.send_request-3.result (Call (ClientSend the_compositor 0 (new_object ∷ [])) ∷ [])
    (Call (ClientSend the_surface 6 []) ∷ Call (ClientSend the_surface 0 []) ∷ []) start made last
    (plays_call client server _ (ClientSend the_compositor 0 (new_object ∷ [])) start made refl
    c.in_ok-send_request.ensures)
    (plays_then client server c.send_request-3.result (Call (ClientSend the_surface 6 []) ∷ [])
    (Call (ClientSend the_surface 0 []) ∷ []) made committed last
    (plays_call client server _ (ClientSend the_surface 6 []) made committed refl c.in_ok-send_request-2.ensures)
    (ends_call client server c.send_request-3.result _
    (ClientSend the_surface 0 []) committed last refl c.send_request-3.ensures))
