use Rattle.wl_trace_line.proofs.Wrote.{after}
use Rattle.wl_trace_line.proofs.report.ReportLine.write.Goals as goal

pub returns : goal.returns
returns g c =
    let then = g.met.S.Sink.then in
    let opened = then _ _ _ _ _ c.in_ok-write.ensures c.in_ok-write_byte.ensures in
    let arguments = then _ _ _ _ _ opened (rw c.kinds.ensures at c.in_ok-write_arguments.ensures) in
    after c.write_byte-2.result (then _ _ _ _ _ arguments) c.write_byte-2.ensures
