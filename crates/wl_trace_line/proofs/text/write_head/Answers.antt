use Rattle.wl_trace_line.proofs.Wrote.{after}
use Rattle.wl_trace_line.proofs.text.write_head.Goals as goal

pub returns : goal.returns
returns g c =
    let then = g.met.S.Sink.then in
    let object = then _ _ _ _ _ (rw c.arrow.ensures at c.in_ok-write_bytes.ensures) c.in_ok-write_object.ensures in
    after c.write_bytes-2.result (then _ _ _ _ _ (then _ _ _ _ _ object c.in_ok-write_byte.ensures))
    c.write_bytes-2.ensures
