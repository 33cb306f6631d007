-- An accepted `bind_unannounced` opens its object. It is refused with S7 if and only if the tables
-- do not have this interface with this version.
use Rattle.std.proofs.Common.{◌≡◌, ◌≢◌, ℕ, Bool, true, false, not, List, Option, Some, None, refl, sym}
use Rattle.std.proofs.Common.{ap, subst, ◌∙◌}
use Rattle.std.specs.Prelude.{◌↔◌, ◌&&◌, bytes_eq, nat_le}
use Rattle.std.specs.declared.result.Result.TheVariants.{Ok, Err}
use Rattle.std.proofs.lemmas.Bool.{and_parts, le-leb, leb-true}
use Rattle.std.proofs.lemmas.Slice.Eq.{bytes_eq-Decides}
use Rattle.wl_wire.specs.declared.kind.Iface.{Iface}
use Rattle.wl_sigs.specs.Fixed.{registry}
use Rattle.wl_sigs.specs.Tables.{Interface, interface_at, place_of}
use Rattle.wl_sigs.specs.Valid.{Valid}
use Rattle.wl_sigs.proofs.Lookups.{named, place_of_its_name}
use Rattle.wl_object_map.specs.declared.object.Object.{Object}
use Rattle.wl_object_map.specs.declared.object.Entry.{Entry}
use Rattle.wl_object_map.specs.declared.object.Maker.TheVariants.{Client}
use Rattle.wl_object_map.specs.Objects.{can_open, next_birth, next_id}
use Rattle.wl_objects.specs.declared.error.SendError.TheVariants as refusals
use Rattle.wl_objects.specs.Writing.{bind_values, message_len}
use Rattle.wl_objects.specs.Messages.{NewObject, live_row, same_iface}
use Rattle.wl_connection.specs.Core.{Core}
use Rattle.wl_connection.specs.Sending.{fits, opening_answer}
use Rattle.wl_client.specs.State.{State, Global}
use Rattle.wl_client.specs.Calls.{can_bind}
use Rattle.wl_client.specs.Unannounced.{HasVersion, any_global, unannounced_answer, unannounced_object}

pub unannounced_opens : (state : State) (target : Object) (name : ℕ) (iface : List ℕ) (version : ℕ) (entry : Entry)
    (global : Global)
    → state.core.failed ≡ false → live_row state.core.view target ≡ Some entry
    → not (same_iface entry.iface registry) ≡ false → any_global state.core.tables name iface ≡ Some global
    → can_bind state.core.tables iface version (Some global) ≡ true
    → fits state.core.outbox (message_len (bind_values name iface version 0)) 0 ≡ true
    → unannounced_answer state target name iface version
    ≡ opening_answer state.core Client (Some (unannounced_object state name iface))
unannounced_opens state target name iface version entry global lives row registers there can room =
    rw (lives, row, registers, ap (can_bind state.core.tables iface version) there ∙ can, room) refl

-- ---- which binds are refused with S7

-- `can_bind` for an interface that `place_of` finds
pub fitting : (tables : List Interface) (iface : List ℕ) (name version place : ℕ) (i : Interface)
    → place_of tables iface ≡ Some (record { 0 = place }) → interface_at tables place ≡ Some i
    → can_bind tables iface version (any_global tables name iface)
    ≡ (bytes_eq i.name iface && (nat_le 1 version && (nat_le version i.version && nat_le version i.version)))
fitting tables iface name version place i is at = rw (is, at, at) refl

knows : (tables : List Interface) (iface : List ℕ) (name version : ℕ) → Valid tables → HasVersion tables iface version
    → can_bind tables iface version (any_global tables name iface) ≡ true
knows tables iface name version v h =
    let is : place_of tables iface ≡ Some (record { 0 = h.place }) =
    subst (λ (n : List ℕ). place_of tables n ≡ Some (record { 0 = h.place })) h.named
    (place_of_its_name tables v h.place h.interface h.at) in
    let same = (bytes_eq-Decides h.interface.name iface).1 h.named in
    let some = le-leb 1 version h.some in
    let known = le-leb version h.interface.version h.known in
    fitting tables iface name version h.place h.interface is h.at ∙ rw (same, some, known) refl

known : (tables : List Interface) (iface : List ℕ) (name version : ℕ)
    → can_bind tables iface version (any_global tables name iface) ≡ true → HasVersion tables iface version
known tables iface name version can = by_place (place_of tables iface) refl
  where
    by_place : (o : Option Iface) → place_of tables iface ≡ o → HasVersion tables iface version
    by_place None is =
        let none : can_bind tables iface version (any_global tables name iface) ≡ false = rw is refl in
        absurd (cc (none, can))
    by_place (Some found) is =
        let n = named tables iface found is in
        let fits = and_parts (bytes_eq n.interface.name iface) _
        (sym (fitting tables iface name version found.0 n.interface is n.at) ∙ can) in
        let versions = and_parts (nat_le 1 version) _ fits.1 in
        record {
          place = found.0;
          interface = n.interface;
          at = n.at;
          named = n.same;
          some = leb-true 1 version versions.0;
          known = leb-true version n.interface.version
              (and_parts (nat_le version n.interface.version) _ versions.1).0;
        }

-- opening the object is never refused with S7
opens_or_not : (core : Core) (new : NewObject) (b : Bool) → can_open Client core.view ≡ b
    → opening_answer core Client (Some new) ≢ Err refusals.BadBind
opens_or_not core new false is e =
    let none : opening_answer core Client (Some new) ≡ Err refusals.NoIds = rw is refl in cc (none, e)
opens_or_not core new true is e =
    let some : opening_answer core Client (Some new)
    ≡ Ok (Some (record { id = next_id Client core.view; birth = next_birth Client core.view })) = rw is refl in
    cc (some, e)

pub known_or_refused : (state : State) (target : Object) (entry : Entry) (name version : ℕ) (iface : List ℕ)
    → Valid state.core.tables → state.core.failed ≡ false → live_row state.core.view target ≡ Some entry
    → same_iface entry.iface registry ≡ true
    → (unannounced_answer state target name iface version ≡ Err refusals.BadBind)
    ↔ (¬ HasVersion state.core.tables iface version)
known_or_refused state target entry name version iface v lives row registry =
    by_fit (can_bind state.core.tables iface version (any_global state.core.tables name iface)) refl
  where
    by_room : can_bind state.core.tables iface version (any_global state.core.tables name iface) ≡ true
        → (room : Bool) → fits state.core.outbox (message_len (bind_values name iface version 0)) 0 ≡ room
        → unannounced_answer state target name iface version ≢ Err refusals.BadBind
    by_room can false is e =
        let full : unannounced_answer state target name iface version ≡ Err refusals.Full =
        rw (lives, row, registry, can, is) refl in
        cc (full, e)
    by_room can true is e =
        let new = unannounced_object state name iface in
        let opens : unannounced_answer state target name iface version ≡ opening_answer state.core Client (Some new) =
        rw (lives, row, registry, can, is) refl in
        opens_or_not state.core new (can_open Client state.core.view) refl (sym opens ∙ e)

    by_fit : (b : Bool) → can_bind state.core.tables iface version (any_global state.core.tables name iface) ≡ b
        → (unannounced_answer state target name iface version ≡ Err refusals.BadBind)
        ↔ (¬ HasVersion state.core.tables iface version)
    by_fit false can = (
      λ _ has. cc (can, knows state.core.tables iface name version v has),
      λ _. rw (lives, row, registry, can) refl,
    )
    by_fit true can = (
      λ e. absurd (by_room can (fits state.core.outbox (message_len (bind_values name iface version 0)) 0) refl e),
      λ none. absurd (none (known state.core.tables iface name version can)),
    )
