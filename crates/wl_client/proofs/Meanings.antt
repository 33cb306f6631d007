-- What the arguments of a message say, and what the messages of wl_display do not change.
use Rattle.std.proofs.Common.{◌≡◌, ℕ, ◌∷◌, Bool, true, false, cond, eqb, List, [], refl, ap, ◌∙◌}
use Rattle.std.specs.Prelude.{Option, is_some, slice_get, ◌&&◌, if◌then◌else◌}
use Rattle.std.specs.declared.option.Option.TheVariants.{None, Some}
use Rattle.std.proofs.lemmas.Bool.{and_parts}
use Rattle.wl_wire.specs.Argument.{Obj}
use Rattle.wl_wire.specs.declared.kind.Iface.{Iface}
use Rattle.wl_sigs.specs.Side.TheVariants.{Request as request_side}
use Rattle.wl_sigs.specs.Tables.{Interface}
use Rattle.wl_sigs.specs.Fixed.{display}
use Rattle.wl_objects.specs.declared.argument.Named.{Named}
use Rattle.wl_objects.specs.declared.argument.Named.TheVariants as named_as
use Rattle.wl_objects.specs.declared.parsed.ParsedArg.{ParsedArg}
use Rattle.wl_objects.specs.declared.parsed.ParsedArg.TheVariants as parsed_as
use Rattle.wl_objects.specs.Parsed.{AreParsed, parsed_object, spelled_in}
use Rattle.wl_objects.specs.Reading.{Reader, Reported, named_at}
use Rattle.wl_objects.specs.Messages.{NewObject, destroys, ended_id, opens, same_iface}
use Rattle.wl_object_map.specs.declared.object.Entry.{Entry}
use Rattle.wl_object_map.specs.Objects.{Objects, look, is_held}
use Rattle.wl_object_map.specs.ObjectsLaws.{look-opened_at}
use Rattle.wl_client.specs.declared.changes.ObjectChange.{ObjectChange}
use Rattle.wl_connection.specs.Core.{Core}
use Rattle.wl_connection.specs.Receiving.{Found}
use Rattle.wl_client.specs.Reports.{argument, deleted_id, delete_report, error_report, id_in, is_delete_event}
use Rattle.wl_client.specs.Reports.{is_error_event, plain_report, report}
use Rattle.wl_client.specs.Steps.{changed, made_by_found, view_by}

abbrev first_named : List Reported → Named
first_named (Obj named ∷ list) = named
first_named _ = named_as.Null

-- the object of the first parsed argument is the one with its id
pub named_first : (r : Reader) (body : List ℕ) (parsed : List ParsedArg)
    → AreParsed r body parsed (spelled_in body parsed)
    → parsed_object (slice_get parsed 0) ≡ named_at r (id_in (argument (spelled_in body parsed) 0))
named_first r body [] h = refl
named_first r body (parsed_as.Null ∷ parsed) h = refl
named_first r body (parsed_as.Int z ∷ parsed) h = refl
named_first r body (parsed_as.Uint n ∷ parsed) h = refl
named_first r body (parsed_as.Fixed z ∷ parsed) h = refl
named_first r body (parsed_as.Str len start ∷ parsed) h = refl
named_first r body (parsed_as.NoObject id ∷ parsed) h = ap first_named (h.reported [])
named_first r body (parsed_as.Object id birth state ∷ parsed) h = ap first_named (h.reported [])
named_first r body (parsed_as.New id ∷ parsed) h = refl
named_first r body (parsed_as.Bound len start version id ∷ parsed) h = refl
named_first r body (parsed_as.Array len start ∷ parsed) h = refl
named_first r body (parsed_as.Fd place ∷ parsed) h = refl

-- the reports of wl_display.error and wl_display.delete_id

pub error_is_reported : (core : Core) (f : Found) → is_error_event f ≡ true
    → report core f ≡ error_report core f.message.values
error_is_reported core f error =
    ap (λ (b : Bool). if b then error_report core f.message.values
    else if is_delete_event f then delete_report core (deleted_id f)
    else plain_report core f.opcode f.message f.message.entry.state) error

pub delete_is_reported : (core : Core) (f : Found) → is_error_event f ≡ false → is_delete_event f ≡ true
    → report core f ≡ delete_report core (deleted_id f)
delete_is_reported core f error delete =
    ap (λ (b : Bool). if b then error_report core f.message.values
    else if is_delete_event f then delete_report core (deleted_id f)
    else plain_report core f.opcode f.message f.message.entry.state) error
    ∙ ap (λ (b : Bool). if b then delete_report core (deleted_id f)
    else plain_report core f.opcode f.message f.message.entry.state) delete

-- ---- what any other event changes

-- if the test of interface and opcode holds, the interface is wl_display
pub of_display : (iface : Iface) (b : Bool) → (same_iface iface display && b) ≡ true → same_iface iface display ≡ true
of_display iface b h = (and_parts (same_iface iface display) b h).0

pub plain_view : (tables : List Interface) (view : Objects) (f : Found) (new : Option NewObject) (change : ObjectChange)
    → is_error_event f ≡ false → is_delete_event f ≡ false → new ≡ made_by_found tables f
    → ((v : Objects) → changed v change ≡ destroys request_side f.message.signature.destroys
    (ended_id f.message.signature.destroys f.message.target.id f.message.values) v)
    → changed (opens view new) change ≡ view_by tables view f
plain_view tables view f new change e d m h =
    let what = f.message.signature.destroys in
    rw (e, d) (h (opens view new)
    ∙ ap (λ (o : Option NewObject). destroys request_side what (ended_id what f.message.target.id f.message.values)
    (opens view o)) m)

held_either : (b : Bool) (e : Entry) (o : Option Entry) → is_some o ≡ true → is_some (cond b (Some e) o) ≡ true
held_either true e o h = refl
held_either false e o h = h

-- an id that has a row still has one after an object was opened
pub held_opened : (view : Objects) (new : Option NewObject) (id : ℕ) (e : Entry) → look view id ≡ Some e
    → is_held (opens view new) id ≡ true
held_opened view None id e h = ap is_some h
held_opened view (Some m) id e h = ap is_some (look-opened_at view m.id m.iface m.version id)
    ∙ held_either (eqb id m.id) _ (look view id) (ap is_some h)
