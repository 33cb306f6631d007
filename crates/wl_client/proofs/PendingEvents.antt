-- What an event means: wl_display.error, wl_display.delete_id, and any other.
use Rattle.std.proofs.Common.{◌≡◌, ℕ, Bool, true, false, List, refl, sym, ap, subst, ◌∙◌}
use Rattle.std.specs.Prelude.{Option, nat_eq, ◌&&◌, if◌then◌else◌}
use Rattle.std.specs.declared.option.Option.TheVariants.{None, Some}
use Rattle.std.proofs.lemmas.Bool.{eqb-true}
use Rattle.wl_wire.specs.declared.kind.Iface.{Iface}
use Rattle.wl_sigs.specs.Side.TheVariants.{Request as request_side}
use Rattle.wl_sigs.specs.Side.TheVariants.{Event as event_side}
use Rattle.wl_sigs.specs.Tables.{Interface}
use Rattle.wl_sigs.specs.Fixed.{display, registry}
use Rattle.wl_object_map.specs.declared.object.Entry.{Entry}
use Rattle.wl_object_map.specs.declared.object.State.TheVariants.{Live}
use Rattle.wl_object_map.specs.View.{lives}
use Rattle.wl_object_map.specs.Objects.{Objects, is_held, look}
use Rattle.wl_objects.specs.declared.parsed.ParsedArg.{ParsedArg}
use Rattle.wl_objects.specs.Messages.{NewObject, Received, after_delete_id, destroys, ended_id, opens, reader_of}
use Rattle.wl_objects.specs.Messages.{same_iface}
use Rattle.wl_objects.specs.Parsed.{AreParsed, reported_in}
use Rattle.wl_objects.specs.Reading.{Reported}
use Rattle.wl_connection.specs.Core.{Core}
use Rattle.wl_connection.specs.Receiving.{Found, takes}
use Rattle.wl_client.specs.declared.changes.Change.{Change}
use Rattle.wl_client.specs.declared.changes.GlobalChange.{GlobalChange}
use Rattle.wl_client.specs.declared.changes.GlobalChange.TheVariants as global_changes
use Rattle.wl_client.specs.declared.changes.ObjectChange.TheVariants as object_changes
use Rattle.wl_client.specs.declared.outline.Outline.{Outline}
use Rattle.wl_client.specs.declared.outline.Outline.TheVariants as outlines
use Rattle.wl_client.specs.declared.pending.PendingEvent.{PendingEvent}
use Rattle.wl_client.specs.State.{Global}
use Rattle.wl_client.specs.Reports.{Event, delete_report, deleted_id, error_report, globals_told}
use Rattle.wl_client.specs.Reports.{is_delete_event, is_error_event, plain_report, report}
use Rattle.wl_client.specs.Outlines.{outline_entry, outlined}
use Rattle.wl_client.specs.Steps.{CanChange, changed, end_with, globals_by, made_by_found, view_by}
use Rattle.wl_client.specs.Steps.{with_global_change}
use Rattle.wl_client.specs.Reading.{IsPending}
use Rattle.wl_client.proofs.Meanings.{delete_is_reported, error_is_reported, held_opened, of_display}
use Rattle.wl_client.proofs.Meanings.{plain_view}

-- ---- the messages of wl_display

error_view : (tables : List Interface) (view : Objects) (f : Found) → is_error_event f ≡ true
    → view ≡ view_by tables view f
error_view tables view f error = rw error refl

delete_view : (tables : List Interface) (view : Objects) (f : Found) → is_error_event f ≡ false
    → is_delete_event f ≡ true → after_delete_id view (deleted_id f) ≡ view_by tables view f
delete_view tables view f error delete = rw (error, delete) refl

not_registry : (iface : Iface) → same_iface iface display ≡ true → same_iface iface registry ≡ false
not_registry iface h = ap (λ (n : ℕ). nat_eq n 1) (eqb-true iface.0 display.0 h)

-- they change no globals
not_told : (tables : List Interface) (globals : List Global) (f : Found)
    → same_iface f.message.entry.iface display ≡ true → globals ≡ globals_by tables globals f
not_told tables globals f is =
    ap (λ (b : Bool). if b && lives f.message.entry.state
    then globals_told tables globals f.opcode f.message.values else globals)
    (sym (not_registry f.message.entry.iface is))

-- ---- any other message

plain_is_reported : (core : Core) (f : Found) → is_error_event f ≡ false → is_delete_event f ≡ false
    → report core f ≡ plain_report core f.opcode f.message f.message.entry.state
plain_is_reported core f error delete =
    ap (λ (b : Bool). if b then error_report core f.message.values
    else if is_delete_event f then delete_report core (deleted_id f)
    else plain_report core f.opcode f.message f.message.entry.state) error
    ∙ ap (λ (b : Bool). if b then delete_report core (deleted_id f)
    else plain_report core f.opcode f.message f.message.entry.state) delete

-- the outline of an event for a live object
pub live_told : (tables : List Interface) (view : Objects) (body : List ℕ) (args : List ParsedArg) (opcode birth : ℕ)
    (m : Received) (waiting : List ℕ) → AreParsed (reader_of tables event_side view) body args m.values
    → birth ≡ (reader_of tables event_side view).birth
    → outlined body args waiting (outlines.Event m.target opcode birth)
    ≡ plain_report (end_with tables view waiting) opcode m Live
live_told tables view body args opcode birth m waiting parsed b =
    ap (λ (l : List Reported). Event m.target opcode l)
    (ap (λ (n : ℕ). reported_in body n waiting args) b ∙ parsed.reported waiting)

-- ---- the pending event

abbrev pub event_of : Outline → Change → Option Entry → ℕ → ℕ → PendingEvent
event_of outline change entry size tokens =
    record { outline = outline; change = change; entry = entry; size = size; tokens = tokens }

module _ (tables : List Interface) (view : Objects) (body : List ℕ) (args : List ParsedArg) (f : Found)
    (outline : Outline) (change : Change) (entry : Option Entry) (size tokens : ℕ) (bytes : size ≡ f.size)
    (taken : tokens ≡ takes f.message) (about : entry ≡ outline_entry view outline) where
  pub error_pending : is_error_event f ≡ true → made_by_found tables f ≡ None
      → ((waiting : List ℕ) → outlined body args waiting outline
      ≡ error_report (end_with tables view waiting) f.message.values)
      → change ≡ record {
        made = None;
        objects = object_changes.Nothing;
        globals = global_changes.Nothing;
        last = true;
      } → IsPending tables view body args f (event_of outline change entry size tokens)
  error_pending error none told what = record {
    report = λ waiting. told waiting ∙ sym (error_is_reported (end_with tables view waiting) f error);
    made = ap (λ (c : Change). c.made) what ∙ sym none;
    objects = ap (λ (c : Change). changed (opens view c.made) c.objects) what ∙ error_view tables view f error;
    can = subst (λ (c : Change). CanChange (opens view c.made) c.objects) (sym what) tt;
    globals = λ globals. ap (λ (c : Change). with_global_change globals c.globals) what
        ∙ not_told tables globals f (of_display f.message.entry.iface (nat_eq f.opcode 0) error);
    bytes = bytes;
    tokens_taken = taken;
    last = ap (λ (c : Change). c.last) what ∙ sym error;
    entry = about;
  }

  pub delete_pending : is_error_event f ≡ false → is_delete_event f ≡ true → made_by_found tables f ≡ None
      → ((waiting : List ℕ) → outlined body args waiting outline
      ≡ delete_report (end_with tables view waiting) (deleted_id f))
      → change.made ≡ None → changed view change.objects ≡ after_delete_id view (deleted_id f)
      → CanChange view change.objects → change.globals ≡ global_changes.Nothing → change.last ≡ false
      → IsPending tables view body args f (event_of outline change entry size tokens)
  delete_pending error delete none told makes does can tells goes_on = record {
    report = λ waiting. told waiting ∙ sym (delete_is_reported (end_with tables view waiting) f error delete);
    made = makes ∙ sym none;
    objects = ap (λ (o : Option NewObject). changed (opens view o) change.objects) makes
        ∙ (does ∙ delete_view tables view f error delete);
    can = subst (λ (o : Option NewObject). CanChange (opens view o) change.objects) (sym makes) can;
    globals = λ globals. ap (λ (c : GlobalChange). with_global_change globals c) tells
        ∙ not_told tables globals f (of_display f.message.entry.iface (nat_eq f.opcode 1) delete);
    bytes = bytes;
    tokens_taken = taken;
    last = goes_on ∙ sym error;
    entry = about;
  }

  pub plain_pending : is_error_event f ≡ false → is_delete_event f ≡ false
      → look view f.message.target.id ≡ Some f.message.entry
      → ((waiting : List ℕ) → outlined body args waiting outline
      ≡ plain_report (end_with tables view waiting) f.opcode f.message f.message.entry.state)
      → change.made ≡ made_by_found tables f
      → ((v : Objects) → changed v change.objects ≡ destroys request_side f.message.signature.destroys
      (ended_id f.message.signature.destroys f.message.target.id f.message.values) v)
      → ((v : Objects) → is_held v f.message.target.id ≡ true → CanChange v change.objects)
      → ((globals : List Global) → with_global_change globals change.globals ≡ globals_by tables globals f)
      → change.last ≡ false → IsPending tables view body args f (event_of outline change entry size tokens)
  plain_pending error delete row told makes does can tells goes_on = record {
    report = λ waiting. told waiting ∙ sym (plain_is_reported (end_with tables view waiting) f error delete);
    made = makes;
    objects = plain_view tables view f change.made change.objects error delete makes does;
    can = can (opens view change.made) (held_opened view change.made f.message.target.id f.message.entry row);
    globals = tells;
    bytes = bytes;
    tokens_taken = taken;
    last = goes_on ∙ sym error;
    entry = about;
  }
