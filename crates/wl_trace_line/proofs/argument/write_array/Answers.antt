use Rattle.wl_trace_line.proofs.Wrote.{after}
use Rattle.wl_trace_line.proofs.argument.write_array.Goals as goal

pub returns : goal.returns
returns g c =
    let then = g.met.S.Sink.then in
    after c.write_byte.result
    (then _ _ _ _ _ (then _ _ _ _ _ c.in_ok-write_bytes.ensures c.in_ok-write_number.ensures)) c.write_byte.ensures
