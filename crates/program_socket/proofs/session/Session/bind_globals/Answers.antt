use Rattle.std.proofs.Common.{[], ◌∷◌, refl}
use Rattle.std.specs.Prelude.{codes}
use Rattle.theory_connection.specs.Pair.{ClientBind, ClientSend}
use Rattle.program_demo.specs.Moves.{the_display, the_registry, new_object}
use Rattle.program_socket.specs.Streams.{known_stream}
use Rattle.program_socket.specs.Playing.{Call}
use Rattle.program_socket.specs.Sessions.{connected}
use Rattle.program_socket.proofs.Plays.{ends_call, plays_call, plays_then}
use Rattle.program_socket.proofs.session.Session.bind_globals.Goals as goal

pub returns : goal.returns
returns g c =
    let client = known_stream g.C.Read.remaining g.C.Write.contents in
    let server = known_stream g.S.Read.remaining g.S.Write.contents in
    let start = connected c.args.self.now in
    let compositor = connected c.bind.new.self in
    let seat = connected c.bind-2.new.self in
    let last = connected c.send_request.new.self in
    plays_then client server c.send_request.result (Call (ClientBind the_registry 1 (codes "wl_compositor") 6) ∷ [])
    (Call (ClientBind the_registry 2 (codes "wl_seat") 9) ∷ Call (ClientSend the_display 0 (new_object ∷ [])) ∷ [])
    start compositor last
    (plays_call client server _ (ClientBind the_registry 1 (codes "wl_compositor") 6) start compositor refl
    c.in_ok-bind.ensures)
    (plays_then client server c.send_request.result (Call (ClientBind the_registry 2 (codes "wl_seat") 9) ∷ [])
    (Call (ClientSend the_display 0 (new_object ∷ [])) ∷ []) compositor seat last
    (plays_call client server _ (ClientBind the_registry 2 (codes "wl_seat") 9) compositor seat refl
    c.in_ok-bind-2.ensures)
    (ends_call client server c.send_request.result _
    (ClientSend the_display 0 (new_object ∷ [])) seat last refl c.send_request.ensures))
