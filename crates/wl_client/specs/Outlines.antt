-- What a report borrows.
use Rattle.std.specs.Prelude.{ℕ, List, [], take, Option, Some, None}
use Rattle.std.specs.Borrow.{RattleType}
use mir.Syntax.{named}
use Rattle.std.specs.declared.result.Result.{Result}
use Rattle.std.specs.declared.result.Result.TheVariants.{Ok, Err}
use Rattle.std.specs.declared.alloc.Allocator as allocator
use Rattle.std.specs.declared.clone.Clone as clone
use Rattle.wl_object_map.specs.declared.table.Table as table
use Rattle.wl_object_map.specs.declared.object.Entry.{Entry}
use Rattle.wl_object_map.specs.Objects.{Objects}
use Rattle.wl_objects.specs.declared.error.NextError.{NextError}
use Rattle.wl_objects.specs.declared.parsed.ParsedArg.{ParsedArg}
use Rattle.wl_objects.specs.Parsed.{reported_in, spelled_in, seen_args}
use Rattle.wl_client.specs.declared.report.Incoming.{Incoming}
use Rattle.wl_client.specs.declared.report.Incoming.TheVariants as incoming
use Rattle.wl_client.specs.declared.outline.Outline.{Outline}
use Rattle.wl_client.specs.declared.outline.Outline.TheVariants as outlines
use Rattle.wl_client.specs.declared.report.IncomingWithEntry.{IncomingWithEntry}
use Rattle.wl_client.specs.Reports.{Report, Event, Discarded, Deleted, Stray, Error, argument}
use Rattle.wl_client.specs.Reports.{entry_of, text_in}
use Rattle.wl_client.specs.contracts.client.Client.{the_row}

-- the value of a borrowed report
abbrev pub lent_report : Incoming → Report
lent_report (incoming.Event target opcode args) = Event target opcode (seen_args args)
lent_report (incoming.Discarded target opcode tokens) = Discarded target opcode tokens.now
lent_report (incoming.Deleted object) = Deleted object
lent_report (incoming.Stray id) = Stray id
lent_report (incoming.Error id object code text) = Error id object code text.now

-- the value that `next` returned
abbrev pub lent_in : Result (Option Incoming) NextError → Result (Option Report) NextError
lent_in (Err why) = Err why
lent_in (Ok None) = Ok None
lent_in (Ok (Some read)) = Ok (Some (lent_report read))

-- the report that an outline gives with a message's body, its parsed arguments, and its tokens
abbrev pub outlined : List ℕ → List ParsedArg → List ℕ → Outline → Report
outlined body args tokens (outlines.Event target opcode birth) =
    Event target opcode (reported_in body birth tokens args)
outlined body args tokens (outlines.Discarded target opcode count) =
    Discarded target opcode (take count tokens)
outlined body args tokens (outlines.Deleted object) = Deleted object
outlined body args tokens (outlines.Stray id) = Stray id
outlined body args tokens (outlines.Error id object code) =
    Error id object code (text_in (argument (spelled_in body args) 2))

-- the entry of the object that an outline's report is about
abbrev pub outline_entry : Objects → Outline → Option Entry
outline_entry view outline = entry_of view (outlined [] [] [] outline)

-- the value that `next_with_entry` returned: the report with the entry of the object that it is
-- about
abbrev pub incoming_in : Result (Option IncomingWithEntry) NextError
    → Result (Option Report) NextError
incoming_in (Err why) = Err why
incoming_in (Ok None) = Ok None
incoming_in (Ok (Some read)) = Ok (Some (lent_report read.incoming))

-- The client's type as the logic has it: `named 0` is the position of its lifetime in a signature.
abbrev pub client_row : (T : RattleType) (A : RattleType) → table.Ghosts T.Denot A.Denot
    → allocator.Ghosts A.Denot → clone.Ghosts A.Denot → RattleType
client_row T A t a c = the_row (record { mir = named 0; lft = [] }) T A t a c
