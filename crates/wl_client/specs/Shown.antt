-- What is printed for an event that a client has read.
use Rattle.std.specs.Prelude.{ℕ, List, ◌++◌, codes, Option, option_map}
use Rattle.std.specs.Fmt.{decimal}
use Rattle.wl_sigs.specs.Side.TheVariants.{Event as event_side}
use Rattle.wl_sigs.specs.Tables.{Interface}
use Rattle.wl_object_map.specs.declared.object.Entry.{Entry}
use Rattle.wl_trace_line.specs.Text.{known_name, string_text}
use Rattle.wl_trace_line.specs.Argument.{argument_object}
use Rattle.wl_trace_line.specs.Report.{report_head, report_line}
use Rattle.wl_client.specs.declared.report.IncomingWithEntry.{IncomingWithEntry}
use Rattle.wl_client.specs.Outlines.{lent_report}
use Rattle.wl_client.specs.Reports.{Report, Event, Discarded, Deleted, Stray, Error}

abbrev pub deleted_text : ℕ → List ℕ
deleted_text id = codes "<- wl_display@1.delete_id(" ++ decimal id ++ codes ")"

-- an error, about an object of this interface or about none
abbrev pub error_text : List ℕ → ℕ → ℕ → List ℕ → List ℕ
error_text interface id code text =
    codes "<- wl_display@1.error(" ++ argument_object interface id ++ codes ", " ++ decimal code
    ++ codes ", " ++ string_text text ++ codes ")"

-- the name of the interface of an object, if the client has that object
abbrev pub interface_in : List Interface → Option Entry → List ℕ
interface_in tables entry = known_name tables (option_map (λ (e : Entry). e.iface) entry)

-- a report with its entry: that of the event's target, or of the object that the event names
abbrev pub shown_text : List Interface → Option Entry → Report → List ℕ
shown_text tables entry (Event target opcode args) =
    report_line tables event_side target.id entry opcode args
shown_text tables entry (Discarded target opcode tokens) =
    report_head tables event_side target.id entry opcode ++ codes "(..)"
shown_text tables entry (Deleted object) = deleted_text object.id
shown_text tables entry (Stray id) = deleted_text id
shown_text tables entry (Error id named code text) =
    error_text (interface_in tables entry) id code text

abbrev pub incoming_text : List Interface → IncomingWithEntry → List ℕ
incoming_text tables read = shown_text tables read.entry (lent_report read.incoming)
