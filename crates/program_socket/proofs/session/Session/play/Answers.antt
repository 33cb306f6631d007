use Rattle.std.proofs.Common.{[], ◌∷◌, ◌++◌}
use Rattle.program_demo.specs.Moves.{adding_globals, getting_registry, announcing_globals}
use Rattle.program_demo.specs.Moves.{binding_globals, finishing_callback, drawing_surface}
use Rattle.program_socket.specs.Streams.{known_stream}
use Rattle.program_socket.specs.Playing.{calls, ClientTurn, ServerTurn}
use Rattle.program_socket.specs.Sessions.{connected}
use Rattle.program_socket.proofs.Plays.{plays_on, plays_then}
use Rattle.program_socket.proofs.session.Session.play.Goals as goal

pub returns : goal.returns
returns g c =
    let client = known_stream g.C.Read.remaining g.C.Write.contents in
    let server = known_stream g.S.Read.remaining g.S.Write.contents in
    let start = connected c.args.self.now in
    let parts-1 = calls (adding_globals c.args.tables.now) in
    let here-1 = connected c.add_globals.new.self in
    let played-1 = c.in_ok-add_globals.ensures in
    let here-2 = connected c.get_registry.new.self in
    let played-2 = plays_on client server parts-1
    (calls getting_registry) start here-1 here-2 played-1 c.in_ok-get_registry.ensures in
    let parts-2 = parts-1 ++ calls getting_registry in
    let here-3 = connected c.to_server.new.self in
    let played-3 = plays_on client server parts-2
    (ClientTurn ∷ []) start here-2 here-3 played-2 c.in_ok-to_server.ensures in
    let parts-3 = parts-2 ++ ClientTurn ∷ [] in
    let here-4 = connected c.announce_globals.new.self in
    let played-4 = plays_on client server parts-3
    (calls announcing_globals) start here-3 here-4 played-3 c.in_ok-announce_globals.ensures in
    let parts-4 = parts-3 ++ calls announcing_globals in
    let here-5 = connected c.to_client.new.self in
    let played-5 = plays_on client server parts-4
    (ServerTurn ∷ []) start here-4 here-5 played-4 c.in_ok-to_client.ensures in
    let parts-5 = parts-4 ++ ServerTurn ∷ [] in
    let here-6 = connected c.bind_globals.new.self in
    let played-6 = plays_on client server parts-5
    (calls binding_globals) start here-5 here-6 played-5 c.in_ok-bind_globals.ensures in
    let parts-6 = parts-5 ++ calls binding_globals in
    let here-7 = connected c.to_server-2.new.self in
    let played-7 = plays_on client server parts-6
    (ClientTurn ∷ []) start here-6 here-7 played-6 c.in_ok-to_server-2.ensures in
    let parts-7 = parts-6 ++ ClientTurn ∷ [] in
    let here-8 = connected c.finish_callback.new.self in
    let played-8 = plays_on client server parts-7
    (calls finishing_callback) start here-7 here-8 played-7 c.in_ok-finish_callback.ensures in
    let parts-8 = parts-7 ++ calls finishing_callback in
    let here-9 = connected c.to_client-2.new.self in
    let played-9 = plays_on client server parts-8
    (ServerTurn ∷ []) start here-8 here-9 played-8 c.in_ok-to_client-2.ensures in
    let parts-9 = parts-8 ++ ServerTurn ∷ [] in
    let here-10 = connected c.draw_surface.new.self in
    let played-10 = plays_on client server parts-9
    (calls drawing_surface) start here-9 here-10 played-9 c.in_ok-draw_surface.ensures in
    let parts-10 = parts-9 ++ calls drawing_surface in
    let here-11 = connected c.to_server-3.new.self in
    let played-11 = plays_on client server parts-10
    (ClientTurn ∷ []) start here-10 here-11 played-10 c.in_ok-to_server-3.ensures in
    let parts-11 = parts-10 ++ ClientTurn ∷ [] in
    plays_then client server c.to_client-3.result parts-11 (ServerTurn ∷ []) start here-11
    (connected c.to_client-3.new.self) played-11 c.to_client-3.ensures
