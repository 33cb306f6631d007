use Rattle.std.proofs.Common.{[], ◌∷◌}
use Rattle.std.specs.Prelude.{codes}
use Rattle.theory_connection.specs.Pair.{AddGlobal}
use Rattle.program_demo.specs.Moves.{interface_or_display}
use Rattle.program_socket.specs.Streams.{known_stream}
use Rattle.program_socket.specs.Playing.{Call}
use Rattle.program_socket.specs.Sessions.{connected}
use Rattle.program_socket.proofs.Plays.{ends_call, global_named, plays_call, plays_then}
use Rattle.program_socket.proofs.session.Session.add_globals.Goals as goal

pub returns : goal.returns
returns g c =
    let client = known_stream g.C.Read.remaining g.C.Write.contents in
    let server = known_stream g.S.Read.remaining g.S.Write.contents in
    let start = connected c.args.self.now in
    let compositor = interface_or_display c.args.tables.now (codes "wl_compositor") in
    let seat = interface_or_display c.args.tables.now (codes "wl_seat") in
    let middle = connected c.add_global.new.self in
    let last = connected c.add_global-2.new.self in
    plays_then client server c.add_global-2.result (Call (AddGlobal compositor 6) ∷ [])
    (Call (AddGlobal seat 9) ∷ []) start middle last
    (plays_call client server _ (AddGlobal compositor 6) start middle
    (global_named compositor c.in_ok-interface.field-0 6 c.in_ok-interface.ensures) c.in_ok-add_global.ensures)
    (ends_call client server c.add_global-2.result _ (AddGlobal seat 9) middle last
    (global_named seat c.in_ok-interface-2.field-0 9 c.in_ok-interface-2.ensures) c.add_global-2.ensures)
