use Rattle.std.proofs.Common.{drop}
use Rattle.wl_objects.specs.Parsed.{seen_args}
use Rattle.wl_trace_line.specs.Text.{comma_separated}
use Rattle.wl_trace_line.specs.Report.{report_texts}
use Rattle.wl_trace_line.proofs.Listed.{Printed}
use Rattle.wl_trace_line.proofs.report.write_arguments.Given as goal

-- the texts printed so far, and the remaining ones
abbrev pub invariant-kinds : goal.invariant-kinds
invariant-kinds g l = Printed g.S.Sink.takes l.initial.out l.out l.place
    (report_texts l.tables (drop l.place l.kinds) (seen_args l.left))
    (comma_separated (report_texts l.tables l.kinds (seen_args l.fn.args)))
