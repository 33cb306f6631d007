use Rattle.std.proofs.Common.{arith}
use Rattle.wl_connection.specs.Reads.{reading_of}
use Rattle.program_socket.proofs.Turns.{delivered}
use Rattle.program_socket.proofs.turn.deliver.Goals as goal

pub returns : goal.returns
returns g c =
    let e = reading_of g.E.End.core g.E.End.with_core g.E.Receiver.answer g.E.Receiver.after g.E.Receiver.is_last in
    delivered e g.met.E.End.laws c.args.end.now c.args.bytes.now c.feed.result.bytes c.feed.result.tokens
    c.feed.new.self c.read_all.new.end _ c.read_all.result
    (omega (arith, c.if-feed-bytes.false)) c.feed.ensures.state c.in-None.is c.read_all.ensures.reads
    c.read_all.ensures.answer
