use Rattle.wl_trace_line.proofs.Wrote.{after}
use Rattle.wl_trace_line.proofs.argument.write_named.Goals as goal

pub returns : goal.returns
returns g c =
    let then = g.met.S.Sink.then in
    let version = then _ _ _ _ _ (then _ _ _ _ _ c.in_ok-write_bytes.ensures c.in_ok-write_number.ensures)
    c.in_ok-write_bytes-2.ensures in
    after c.write_new.result
    (then _ _ _ _ _ (then _ _ _ _ _ c.in_ok-write_string.ensures version)) c.write_new.ensures
