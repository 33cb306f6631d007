use Rattle.program_socket.specs.Streams.{known_stream}
use Rattle.program_socket.proofs.Plays.{client_turn}
use Rattle.program_socket.proofs.session.Session.to_server.Goals as goal

pub returns : goal.returns
returns g c =
    let client = known_stream g.C.Read.remaining g.C.Write.contents in
    let server = known_stream g.S.Read.remaining g.S.Write.contents in
    let start = c.args.self.now in
    client_turn client server c.deliver.result start.client c.flush_all.new.end start.server c.deliver.new.end
    start.recording c.add.new.self start.client_stream c.flush_all.new.writer start.server_stream
    c.receive.new.reader
    c.in_ok-count.count c.in_ok-bytes.bytes.items c.deref.result.now c.deref-2.result.now c.in_ok-count.ensures.sends
    c.in_ok-count.ensures.count c.in_ok-count.ensures.others
    c.in_ok-bytes.ensures.count c.in_ok-bytes.ensures.given c.deref.ensures.value c.in_ok-add.ensures.ok
    c.deref-2.ensures.value c.deliver.ensures
