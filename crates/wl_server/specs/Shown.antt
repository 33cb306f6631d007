-- What is printed for a request that a server has read.
use Rattle.std.specs.Prelude.{ℕ, List, Some}
use Rattle.wl_sigs.specs.Side.TheVariants.{Request as request_side}
use Rattle.wl_sigs.specs.Tables.{Interface}
use Rattle.wl_objects.specs.Parsed.{seen_args}
use Rattle.wl_trace_line.specs.Report.{report_line}
use Rattle.wl_server.specs.declared.report.RequestWithEntry.{RequestWithEntry}

abbrev pub request_text : List Interface → RequestWithEntry → List ℕ
request_text tables read =
    report_line tables request_side read.request.target.id (Some read.entry) read.request.opcode
    (seen_args read.request.args)
