use Rattle.wl_trace_line.proofs.Wrote.{after}
use Rattle.wl_trace_line.proofs.text.write_new.Goals as goal

pub returns : goal.returns
returns g c = after c.write_object.result (g.met.S.Sink.then _ _ _ _ _ c.in_ok-write_bytes.ensures) c.write_object.ensures
