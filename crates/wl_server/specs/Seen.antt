-- The values of the code's reports, apart from where they lie in memory.
use Rattle.std.specs.Prelude.{Option, Some, None}
use Rattle.std.specs.declared.result.Result.{Result}
use Rattle.std.specs.declared.result.Result.TheVariants.{Ok, Err}
use Rattle.wl_objects.specs.declared.error.NextError.{NextError}
use Rattle.wl_objects.specs.Parsed.{seen_args}
use Rattle.wl_connection.specs.Outcomes.{read_as}
use Rattle.wl_server.specs.declared.report.Request.{Request}
use Rattle.wl_server.specs.declared.report.OwnedRequest.{OwnedRequest}
use Rattle.wl_server.specs.declared.report.RequestWithEntry.{RequestWithEntry}
use Rattle.wl_server.specs.declared.report.OwnedRequestWithEntry.{OwnedRequestWithEntry}
use Rattle.wl_server.specs.Requests.{Report}

-- the value of an owned report
abbrev pub report_of : {A : Type 0} → OwnedRequest A → Report
report_of read = record { target = read.target; opcode = read.opcode; args = read.args }

-- the value that `next_owned_with_entry` returned, without the entry
abbrev pub request_in : {A : Type 0} → Result (Option (OwnedRequestWithEntry A)) NextError
    → Result (Option Report) NextError
request_in (Err why) = Err why
request_in (Ok None) = Ok None
request_in (Ok (Some read)) = Ok (Some (report_of read.request))

-- the value that `next_owned` returned
abbrev pub report_in : {A : Type 0} → Result (Option (OwnedRequest A)) NextError
    → Result (Option Report) NextError
report_in result = read_as report_of result

-- the value of a borrowed report
abbrev pub lent_report : Request → Report
lent_report read = record { target = read.target; opcode = read.opcode; args = seen_args read.args }

-- the value that `next_with_entry` returned, without the entry
abbrev pub lent_request_in : Result (Option RequestWithEntry) NextError
    → Result (Option Report) NextError
lent_request_in (Err why) = Err why
lent_request_in (Ok None) = Ok None
lent_request_in (Ok (Some read)) = Ok (Some (lent_report read.request))

-- the value that `next` returned
abbrev pub lent_in : Result (Option Request) NextError → Result (Option Report) NextError
lent_in (Err why) = Err why
lent_in (Ok None) = Ok None
lent_in (Ok (Some read)) = Ok (Some (lent_report read))
