use Rattle.wl_trace_line.proofs.Wrote.{after}
use Rattle.wl_trace_line.proofs.argument.write_descriptor.Goals as goal

pub returns : goal.returns
returns g c =
    after c.write_number.result (g.met.S.Sink.then _ _ _ _ _ c.in_ok-write_bytes.ensures) c.write_number.ensures
