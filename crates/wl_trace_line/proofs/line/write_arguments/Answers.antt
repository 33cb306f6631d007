use Rattle.std.proofs.Common.{arith}
use Rattle.wl_wire.specs.declared.kind.Kind.TheVariants.{Int}
use Rattle.wl_wire.specs.Argument.{lent}
use Rattle.wl_trace_line.proofs.Listed.{printed_all, printed_more, taken_after-le, trace_step, trace_without_kinds, trace_without_values}
use Rattle.wl_trace_line.proofs.line.write_arguments.Goals as goal

pub returns-in-None : goal.returns-in-None
returns-in-None g c =
    printed_all g.S.Sink.takes _ _ _ _ _ c.kinds.invariant.printed
    (trace_without_values c.args.tables.now c.kinds.place c.args.kinds.now Int
    (g.L.Lookup.reader c.args.lookup.now).object c.kinds.taken _ c.kinds-test.true c.in-None.ensures.0)

pub returns : goal.returns
returns g c =
    printed_all g.S.Sink.takes _ _ _ _ _ c.kinds.invariant.printed
    (trace_without_kinds c.args.tables.now c.kinds.place c.args.kinds.now Int
    (g.L.Lookup.reader c.args.lookup.now).object c.kinds.taken _ c.kinds-test.false)

pub kinds-preserved : goal.kinds-preserved
kinds-preserved g c = record {
  printed = printed_more g.S.Sink.takes _ _ _ _ _ c.kinds.invariant.printed g.met.S.Sink.then _ _ _
      (trace_step c.args.tables.now c.kinds.place c.args.kinds.now Int
      (g.L.Lookup.reader c.args.lookup.now).object c.kinds.taken _ _ _ _
      c.kinds-test.true c.in-Some.ensures c.taken_after-taken.ensures)
      (rw c.told_interface.ensures at c.in_ok-write_placed.ensures);
  few = omega (
    arith,
    c.kinds.invariant.few,
    c.taken_after-taken.ensures,
    taken_after-le c.kinds.taken
        (lent c.in-Some.value),
  );
}
