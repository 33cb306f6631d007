use Rattle.std.proofs.Common.{arith}
use Rattle.std.proofs.lemmas.List.{take_all}
use Rattle.wl_trace_line.proofs.Wrote.{after}
use Rattle.wl_trace_line.proofs.text.write_string.Goals as goal

pub returns : goal.returns
returns g c =
    let then = g.met.S.Sink.then in
    let whole = rw (take_all c.bytes.byte-index c.args.text.now (omega (arith, c.bytes-test.false))) at c.bytes.invariant in
    after c.write_byte-2.result
    (λ last. then _ _ _ _ _ c.in_ok-write_byte.ensures (then _ _ _ _ _ whole last)) c.write_byte-2.ensures
