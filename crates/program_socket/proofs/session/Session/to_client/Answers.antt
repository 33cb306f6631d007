use Rattle.program_socket.specs.Streams.{known_stream}
use Rattle.program_socket.proofs.Plays.{server_turn}
use Rattle.program_socket.proofs.session.Session.to_client.Goals as goal

pub returns : goal.returns
returns g c =
    let client = known_stream g.C.Read.remaining g.C.Write.contents in
    let server = known_stream g.S.Read.remaining g.S.Write.contents in
    let start = c.args.self.now in
    server_turn client server c.deliver.result start.server c.flush_all.new.end start.client c.deliver.new.end
    start.recording c.add.new.self start.server_stream c.flush_all.new.writer start.client_stream
    c.receive.new.reader
    c.in_ok-count.count c.in_ok-bytes.bytes.items c.deref.result.now c.deref-2.result.now c.in_ok-count.ensures.sends
    c.in_ok-count.ensures.count c.in_ok-count.ensures.others
    c.in_ok-bytes.ensures.count c.in_ok-bytes.ensures.given c.deref.ensures.value c.in_ok-add.ensures.ok
    c.deref-2.ensures.value c.deliver.ensures
