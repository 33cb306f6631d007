-- Which events make an object. That object can be opened.
use Rattle.std.proofs.Common.{◌≡◌, ℕ, zero, suc, ◌+◌, ◌-◌, ◌<◌, ◌≤◌, Bool, true, false, cond, not, ◌&&◌, List}
use Rattle.std.proofs.Common.{[], ◌∷◌, Some, None, refl, sym, ap, subst, ◌∙◌, inl, inr, arith}
use Rattle.std.specs.Prelude.{Option, is_some, nat_le, slice_get, option_map}
use Rattle.std.specs.List.{list_any}
use Rattle.std.proofs.lemmas.Bool.{and_parts, cases_lt, eq-eqb, eqb-true, leb-true}
use Rattle.std.specs.declared.result.Result.TheVariants.{Ok}
use Rattle.wl_wire.specs.declared.header.Header.{Header}
use Rattle.wl_wire.specs.declared.kind.Kind.{Kind}
use Rattle.wl_wire.specs.declared.kind.Kind.TheVariants as kinds
use Rattle.wl_wire.specs.Argument.{Argument}
use Rattle.wl_sigs.specs.Side.TheVariants.{Event}
use Rattle.wl_sigs.specs.Tables.{Interface, MessageSignature, signature_at, messages_of, new_objects}
use Rattle.wl_sigs.specs.Tables.{is_by_server, has_server_object}
use Rattle.wl_sigs.specs.Rules.{has_server_objects}
use Rattle.wl_sigs.specs.Fixed.{wl_display, display}
use Rattle.wl_sigs.specs.Valid.{Valid}
use Rattle.wl_sigs.proofs.Lookups.{found}
use Rattle.wl_sigs.proofs.ValidKeeps.{any_true}
use Rattle.wl_object_map.specs.declared.object.Entry.{Entry}
use Rattle.wl_object_map.specs.Ranges.{is_of_server, table_id}
use Rattle.wl_object_map.specs.View as table
use Rattle.wl_object_map.specs.View.{View, Sound, places, times}
use Rattle.wl_object_map.specs.Objects.{Objects, ObjectsAreSound, look}
use Rattle.wl_object_map.specs.ObjectsLaws.{in_range-server}
use Rattle.wl_objects.specs.Messages.{NewObject, Received, made, reader_of, received, same_iface, server_may_use}
use Rattle.wl_objects.specs.Messages.{waits_for_request}
use Rattle.wl_connection.proofs.NewIds.{new_free_at_client}
use Rattle.wl_client.specs.Reports.{opens_row}
use Rattle.wl_client.specs.Steps.{CanOpen}

-- ---- an event makes no object if its signature has none

none_made : (tables : List Interface) (version : ℕ) (ks : List Kind) (values : List Argument) → new_objects ks ≡ []
    → list_any is_by_server ks ≡ false → made tables version ks values ≡ None
none_made tables version [] values n s = refl
none_made tables version (k ∷ ks) [] n s = refl
none_made tables version (kinds.Int ∷ ks) (v ∷ values) n s = none_made tables version ks values n s
none_made tables version (kinds.Uint ∷ ks) (v ∷ values) n s = none_made tables version ks values n s
none_made tables version (kinds.Fixed ∷ ks) (v ∷ values) n s = none_made tables version ks values n s
none_made tables version (kinds.Str null ∷ ks) (v ∷ values) n s = none_made tables version ks values n s
none_made tables version (kinds.Obj null iface ∷ ks) (v ∷ values) n s = none_made tables version ks values n s
none_made tables version (kinds.New iface ∷ ks) (v ∷ values) n s = absurd (cc n)
none_made tables version (kinds.NewByServer iface ∷ ks) (v ∷ values) n s = absurd (cc s)
none_made tables version (kinds.Array ∷ ks) (v ∷ values) n s = none_made tables version ks values n s
none_made tables version (kinds.Fd ∷ ks) (v ∷ values) n s = none_made tables version ks values n s

-- ---- no event of wl_display makes an object

not_by_server : (opcode : ℕ) (m : MessageSignature) → slice_get (messages_of Event wl_display) opcode ≡ Some m
    → has_server_object m ≡ false
not_by_server zero m e = let d = ap (option_map has_server_object) e in cc
not_by_server (suc zero) m e = let d = ap (option_map has_server_object) e in cc
not_by_server (suc (suc n)) m e = absurd (cc)

pub display_makes_none : (tables : List Interface) (entry : Entry) (opcode version : ℕ) (m : MessageSignature)
    (values : List Argument) → Valid tables → signature_at tables entry.iface.0 Event opcode ≡ Some m
    → same_iface entry.iface display ≡ true → made tables version m.kinds values ≡ None
display_makes_none tables entry opcode version m values valid e is =
    let first : entry.iface.0 ≡ 0 = eqb-true entry.iface.0 display.0 is in
    let at : signature_at tables 0 Event opcode ≡ Some m =
    subst (λ (n : ℕ). signature_at tables n Event opcode ≡ Some m) first e in
    let of : slice_get (messages_of Event wl_display) opcode ≡ Some m = rw valid.fixed_four.display at at in
    none_made tables version m.kinds values (valid.few_objects_made.events entry.iface.0 opcode m e)
    (not_by_server opcode m of)

-- ---- with tables without server-created objects, no event makes an object

pub event_makes_none : (tables : List Interface) (place opcode version : ℕ) (m : MessageSignature)
    (values : List Argument) → Valid tables → has_server_objects tables ≡ false
    → signature_at tables place Event opcode ≡ Some m → made tables version m.kinds values ≡ None
event_makes_none tables place opcode version m values valid none e =
    none_made tables version m.kinds values (valid.few_objects_made.events place opcode m e)
    (by_test (has_server_object m) refl)
  where
    by_test : (b : Bool) → has_server_object m ≡ b → has_server_object m ≡ false
    by_test false h = h
    by_test true h =
        let at = found tables place Event opcode m e in
        let event : list_any has_server_object at.interface.events ≡ true =
        any_true has_server_object at.interface.events opcode m at.of h in
        let some : has_server_objects tables ≡ true =
        any_true (λ (i : Interface). list_any has_server_object i.events) tables place at.interface at.at event in
        absurd (cc (none, some))

-- ---- the object that an event makes can be opened

pub can_open : (tables : List Interface) (view : Objects) (h : Header) (body : List ℕ) (waiting : ℕ) (m : Received)
    (o : Option NewObject) → Valid tables
    → received tables Event (reader_of tables Event view) h body waiting ≡ Ok m
    → made tables m.entry.version m.signature.kinds m.values ≡ o → CanOpen tables view o
can_open tables view h body waiting m None v e is = tt
can_open tables view h body waiting m (Some new) v e is = new_free_at_client tables view h body waiting m new v e is

-- ---- memory may be needed only at the next id, one that was never used

opens_past : (view : View) (place : ℕ) → Sound view → view.freed ≡ [] → table.look view place ≡ None → 0 < place
    → view.used < place
opens_past view place sound none row some = elim (cases_lt view.used place) [
  | inl past ↦ past
  | inr used ↦ (
      let one : places view place ≡ 1 = sound.once place some used in
      let zero : places view place ≡ 0 =
      ap (λ (o : Option Entry). cond (is_some o) 1 0 + times place view.freed) row
      ∙ ap (λ (l : List ℕ). 0 + times place l) none in
      absurd (cc (one, zero)))
]

pub opens_unused : (tables : List Interface) (view : Objects) (m : NewObject) → ObjectsAreSound view
    → view.server.freed ≡ [] → server_may_use tables view m.id ≡ true → look view m.id ≡ None
    → opens_row view (Some m) ≡ true
opens_unused tables view m sound none may row =
    let parts = and_parts (is_of_server m.id && not (waits_for_request tables (look view m.id)))
    (nat_le (table_id m.id) (view.server.used + 1)) may in
    let of_server : is_of_server m.id ≡ true =
    (and_parts (is_of_server m.id) (not (waits_for_request tables (look view m.id))) parts.0).0 in
    let from : 4278190080 ≤ m.id = leb-true 4278190080 m.id of_server in
    let upto : table_id m.id ≤ view.server.used + 1 = leb-true (table_id m.id) (view.server.used + 1) parts.1 in
    let past : view.server.used < table_id m.id = opens_past view.server (table_id m.id) sound.server none
    (sym (in_range-server table.look view m.id of_server) ∙ row) (omega (arith, from)) in
    let same : m.id ≡ 4278190080 + (view.server.used - 1) = omega (arith, from, upto, past) in
    eq-eqb m.id (4278190080 + (view.server.used - 1)) same
