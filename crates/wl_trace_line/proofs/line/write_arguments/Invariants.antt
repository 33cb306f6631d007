use Rattle.std.proofs.Common.{◌+◌, ◌≤◌, drop}
use Rattle.wl_trace_line.specs.Text.{comma_separated}
use Rattle.wl_trace_line.specs.Line.{trace_texts}
use Rattle.wl_trace_line.proofs.Listed.{Printed}
use Rattle.wl_trace_line.proofs.line.write_arguments.Given as goal

-- the texts printed so far, and the remaining ones; each argument takes at most one token
abbrev pub invariant-kinds : goal.invariant-kinds
invariant-kinds g l = let held = (g.L.Lookup.reader l.lookup).object in record {
  printed : Printed g.S.Sink.takes l.initial.out l.out l.place
      (trace_texts l.tables held l.taken (drop l.place l.kinds) l.left)
      (comma_separated (trace_texts l.tables held l.fn.taken l.kinds l.fn.values));
  few : l.taken ≤ l.fn.taken + l.place;
}
