use Rattle.std.proofs.Common.{subst}
use Rattle.program_socket.specs.Streams.{known_stream}
use Rattle.program_socket.specs.Playing.{PlaysOver, socket_steps}
use Rattle.program_socket.specs.Sessions.{connected}
use Rattle.program_socket.proofs.session.socket_session.Goals as goal

pub returns : goal.returns
returns g c =
    let client = known_stream g.C.Read.remaining g.C.Write.contents in
    let server = known_stream g.S.Read.remaining g.S.Write.contents in
    let last = connected c.play.new.self in
    record {
      last = last;
      played = subst (λ begins. PlaysOver client server (socket_steps c.args.tables.now) begins last)
          c.in_ok-session.ensures
          c.in_ok-play.ensures;
      passed = c.ended.ensures.passed;
      exact = c.ended.ensures.agree;
      counted = c.ended.ensures.objects;
      rows = c.ended.ensures.rows;
      of_client = c.ended.ensures.of_client;
    }
