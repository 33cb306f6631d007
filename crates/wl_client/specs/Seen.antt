-- The values of the code's reports, apart from where they lie in memory.
use Rattle.std.specs.Prelude.{Option, Some, None}
use Rattle.std.specs.declared.result.Result.{Result}
use Rattle.std.specs.declared.result.Result.TheVariants.{Ok, Err}
use Rattle.wl_objects.specs.declared.error.NextError.{NextError}
use Rattle.wl_connection.specs.Outcomes.{read_as}
use Rattle.wl_client.specs.declared.report.OwnedIncoming.{OwnedIncoming}
use Rattle.wl_client.specs.declared.report.OwnedIncoming.TheVariants as incoming
use Rattle.wl_client.specs.declared.report.OwnedIncomingWithEntry.{OwnedIncomingWithEntry}
use Rattle.wl_client.specs.Reports.{Report, Event, Discarded, Deleted, Stray, Error}

-- the value of an owned report
abbrev pub report_of : {A : Type 0} → OwnedIncoming A → Report
report_of (incoming.Event target opcode args) = Event target opcode args
report_of (incoming.Discarded target opcode tokens) = Discarded target opcode tokens
report_of (incoming.Deleted object) = Deleted object
report_of (incoming.Stray id) = Stray id
report_of (incoming.Error id named code text) = Error id named code text

-- the value that `next_owned_with_entry` returned, without the entry
abbrev pub owned_incoming_in : {A : Type 0} → Result (Option (OwnedIncomingWithEntry A)) NextError
    → Result (Option Report) NextError
owned_incoming_in (Err why) = Err why
owned_incoming_in (Ok None) = Ok None
owned_incoming_in (Ok (Some read)) = Ok (Some (report_of read.incoming))

-- the value that `next_owned` returned
abbrev pub report_in : {A : Type 0} → Result (Option (OwnedIncoming A)) NextError
    → Result (Option Report) NextError
report_in result = read_as report_of result
