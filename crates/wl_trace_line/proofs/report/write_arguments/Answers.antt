use Rattle.wl_wire.specs.declared.kind.Kind.TheVariants.{Int}
use Rattle.wl_trace_line.proofs.Listed.{printed_all, printed_more, report_step, report_without_kinds, report_without_values}
use Rattle.wl_trace_line.proofs.report.write_arguments.Goals as goal

pub returns-in-None : goal.returns-in-None
returns-in-None g c =
    printed_all g.S.Sink.takes _ _ _ _ _ c.kinds.invariant
    (report_without_values c.args.tables.now c.kinds.place c.args.kinds.now Int _ c.kinds-test.true
    c.in-None.ensures.0)

pub returns : goal.returns
returns g c =
    printed_all g.S.Sink.takes _ _ _ _ _ c.kinds.invariant
    (report_without_kinds c.args.tables.now c.kinds.place c.args.kinds.now Int _ c.kinds-test.false)

pub kinds-preserved : goal.kinds-preserved
kinds-preserved g c =
    printed_more g.S.Sink.takes _ _ _ _ _ c.kinds.invariant g.met.S.Sink.then _ _ _
    (report_step c.args.tables.now c.kinds.place c.args.kinds.now Int _ _ _ c.kinds-test.true c.in-Some.ensures)
    (rw (c.wire_argument.ensures, c.named_interface.ensures, c.descriptor_number.ensures) at c.in_ok-write_placed.ensures)
