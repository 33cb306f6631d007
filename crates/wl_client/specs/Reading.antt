-- The result of a client's reading of the first message.
use Rattle.std.specs.Prelude.{◌≡◌, ◌≤◌, ℕ, false, List, length, take, Some, None}
use Rattle.std.specs.declared.result.Result.{Result}
use Rattle.std.specs.declared.result.Result.TheVariants.{Ok, Err}
use Rattle.wl_sigs.specs.Side.TheVariants.{Event as event_side}
use Rattle.wl_sigs.specs.Tables.{Interface, max_args}
use Rattle.wl_sigs.specs.Rules.{has_server_objects}
use Rattle.wl_objects.specs.declared.error.Fault.{Fault}
use Rattle.wl_objects.specs.declared.parsed.ParsedArg.{ParsedArg}
use Rattle.wl_object_map.specs.Objects.{Objects}
use Rattle.wl_objects.specs.Messages.{opens}
use Rattle.wl_message.specs.Arrived.{in_front}
use Rattle.wl_message.specs.Cut.{Whole}
use Rattle.wl_connection.specs.Core.{Core}
use Rattle.wl_connection.specs.FirstMessage.{body_of}
use Rattle.wl_connection.specs.Receiving.{Found, found, takes}
use Rattle.wl_connection.specs.ServerRange.{OpensLasting, OpensMadeBySome}
use Rattle.wl_client.specs.declared.pending.PendingEvent.{PendingEvent}
use Rattle.wl_client.specs.State.{Global}
use Rattle.wl_client.specs.Reports.{Report, report, is_error_event, event_opens, opens_row}
use Rattle.wl_client.specs.Outlines.{outline_entry, outlined}
use Rattle.wl_client.specs.Steps.{report_by, made_by_found, view_by, globals_by, CanOpen, CanChange}
use Rattle.wl_client.specs.Steps.{view_stepped, with_global_change}

-- A pending event describes what this message, with this body and these parsed arguments, means and
-- does, given these tables and objects.
pub record IsPending (tables : List Interface) (view : Objects) (body : List ℕ)
    (args : List ParsedArg) (f : Found) (event : PendingEvent) : Type 0 where
  pub report : (tokens : List ℕ)
      → outlined body args tokens event.outline ≡ report_by tables view tokens f
  pub made : event.change.made ≡ made_by_found tables f
  pub objects : view_stepped view event ≡ view_by tables view f
  pub can : CanChange (opens view event.change.made) event.change.objects
  pub globals : (globals : List Global)
      → with_global_change globals event.change.globals ≡ globals_by tables globals f
  pub bytes : event.size ≡ f.size
  pub tokens_taken : event.tokens ≡ takes f.message
  pub last : event.change.last ≡ is_error_event f
  pub entry : event.entry ≡ outline_entry view event.outline

-- What a message means: an event, and never a fault.
abbrev pub IsPendingOf : List Interface → Objects → List ℕ → List ParsedArg → Found
    → Result PendingEvent Fault → Type 0
IsPendingOf tables view body args f (Err fault) = ⊥
IsPendingOf tables view body args f (Ok event) = IsPending tables view body args f event

-- The first event can be applied: its message is whole, its tokens wait, what it makes can be
-- opened and is destroyed by no event, what it then changes exists, and what it is about exists. It
-- makes something only if the tables have such messages.
pub record CanApply (core : Core) (event : PendingEvent) : Type 0 where
  pub message : in_front core.inbox ≡ Whole event.size
  pub few : event.tokens ≤ max_args
  pub waiting : event.tokens ≤ length core.inbox.tokens
  pub made : CanOpen core.tables core.view event.change.made
  pub lasting : OpensLasting core.tables event.change.made
  pub by_some : OpensMadeBySome core.tables event.change.made
  pub change : CanChange (opens core.view event.change.made) event.change.objects
  pub entry : event.entry ≡ outline_entry core.view event.outline
  pub wants : event_opens core (found core event_side) ≡ opens_row core.view event.change.made
  pub none : has_server_objects core.tables ≡ false → event.change.made ≡ None

-- the report of the first event, from its parsed arguments
abbrev pub front_report : Core → List ParsedArg → PendingEvent → Report
front_report core args event =
    outlined (body_of core event.size) args (take event.tokens core.inbox.tokens) event.outline

-- the first message, its event, and its report with the tokens that it takes
pub record IsAhead (core : Core) (args : List ParsedArg) (f : Found) (event : PendingEvent)
    : Type 0 where
  pub can_apply : CanApply core event
  pub is_pending : IsPending core.tables core.view (body_of core f.size) args f event
  pub is_reported : front_report core args event ≡ report core f

-- This event is the first at an end that has not failed.
pub record IsNextEvent (core : Core) (args : List ParsedArg) (event : PendingEvent) : Type 0 where
  pub lives : core.failed ≡ false
  pub message : Found
  pub is_found : found core event_side ≡ Ok (Some message)
  pub ahead : IsAhead core args message event

-- the report of an event whose message the end applied last
abbrev pub applied_report : Core → List ParsedArg → PendingEvent → Report
applied_report core args event =
    outlined core.inbox.last args core.inbox.last_tokens event.outline
