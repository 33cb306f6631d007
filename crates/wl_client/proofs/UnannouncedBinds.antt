-- What an accepted `bind_unannounced` writes is a spelling, and its object has the interface that was named.
use Rattle.std.proofs.Common.{◌≡◌, ℕ, ◌<◌, ◌^◌, Bool, true, false, not, List, [], ◌∷◌, Some, None}
use Rattle.std.proofs.Common.{refl, sym, ap, subst, ◌∙◌, arith}
use Rattle.std.specs.Prelude.{Option, bytes_eq, nat_le, if◌then◌else◌}
use Rattle.std.specs.Option.{option_and_then}
use Rattle.std.specs.declared.result.Result.{Result}
use Rattle.std.specs.declared.result.Result.TheVariants.{Ok, Err}
use Rattle.std.proofs.lemmas.Bool.{and_parts, not-false, leb-true}
use Rattle.wl_wire.specs.declared.kind.Kind.{Kind}
use Rattle.wl_wire.specs.declared.kind.Iface.{Iface}
use Rattle.wl_sigs.specs.Side.TheVariants.{Request}
use Rattle.wl_sigs.specs.Tables.{message_of, place_of}
use Rattle.wl_sigs.specs.Fixed.{uint, new, registry}
use Rattle.wl_sigs.proofs.Lookups.{named}
use Rattle.wl_object_map.specs.declared.object.Object.{Object}
use Rattle.wl_object_map.specs.declared.object.Entry.{Entry}
use Rattle.wl_object_map.specs.declared.object.Maker.TheVariants.{Client}
use Rattle.wl_object_map.specs.Objects.{next_id}
use Rattle.wl_object_map.specs.Views.{free_is, free_or_next-next_id}
use Rattle.wl_objects.specs.declared.error.SendError.{SendError}
use Rattle.wl_objects.specs.declared.error.SendError.TheVariants as refusals
use Rattle.wl_objects.specs.Writing.{bind_values, message_bytes}
use Rattle.wl_objects.specs.Messages.{live_row, same_iface}
use Rattle.wl_message.specs.Cut.{usual_limit}
use Rattle.wl_connection.specs.Spelled.{MessageSpells}
use Rattle.wl_connection.proofs.Spelled.{own-spelled}
use Rattle.wl_client.specs.State.{State}
use Rattle.wl_client.specs.Calls.{can_bind}
use Rattle.wl_client.specs.Unannounced.{any_global, unannounced_at, unannounced_answer, IsOfNamed, UnannouncedSpells}
use Rattle.wl_client.proofs.Binds.{fits_global, kinds_in}
use Rattle.wl_client.proofs.AnyBinds.{fitting}

-- an accepted bind is one that the tables know
can_row : (state : State) (name version : ℕ) (iface : List ℕ) (new : Option Object) (o : Option Entry)
    → unannounced_at state name iface version o ≡ Ok new
    → can_bind state.core.tables iface version (any_global state.core.tables name iface) ≡ true
can_row state name version iface new None e = absurd (cc e)
can_row state name version iface new (Some entry) e = by_iface (not (same_iface entry.iface registry)) _ e
  where
    by_bind : (b : Bool) (x : Result (Option Object) SendError)
        → not (can_bind state.core.tables iface version (any_global state.core.tables name iface)) ≡ b
        → (if b then Err refusals.BadBind else x) ≡ Ok new
        → can_bind state.core.tables iface version (any_global state.core.tables name iface) ≡ true
    by_bind true x t h = absurd (cc h)
    by_bind false x t h = not-false _ t

    by_iface : (b : Bool) (x : Result (Option Object) SendError)
        → (if b then Err refusals.NoSuchMessage else
        (if not (can_bind state.core.tables iface version (any_global state.core.tables name iface))
        then Err refusals.BadBind else x)) ≡ Ok new
        → can_bind state.core.tables iface version (any_global state.core.tables name iface) ≡ true
    by_iface true x h = absurd (cc h)
    by_iface false x h =
        by_bind (not (can_bind state.core.tables iface version (any_global state.core.tables name iface))) x refl h

can : (state : State) (target : Object) (name version : ℕ) (iface : List ℕ) (new : Option Object)
    → unannounced_answer state target name iface version ≡ Ok new
    → can_bind state.core.tables iface version (any_global state.core.tables name iface) ≡ true
can state target name version iface new e = by_failed state.core.failed e
  where
    by_failed : (b : Bool) → (if b then Err refusals.Failed
        else unannounced_at state name iface version (live_row state.core.view target)) ≡ Ok new
        → can_bind state.core.tables iface version (any_global state.core.tables name iface) ≡ true
    by_failed true h = absurd (cc h)
    by_failed false h = can_row state name version iface new (live_row state.core.view target) h

pub unannounced_spells : (state : State) (target : Object) (name version : ℕ) (iface : List ℕ)
    → UnannouncedSpells state target name iface version
unannounced_spells state target name version iface v s n w made e signature there =
    let id = next_id Client state.core.view in
    let values = bind_values name iface version id in
    let f = free_is state.core.view.client id s.client (free_or_next-next_id state.core.view.client) in
    let low : id < 2 ^ 32 = omega (arith, f.at_most_next, s.client.ids_end) in
    let fits = fits_global state.core.tables v iface version (any_global state.core.tables name iface)
    (can state target name version iface made e) in
    subst (λ (ks : List Kind). MessageSpells usual_limit ks target.id 0 values (message_bytes target.id 0 values))
    (kinds_in _ _ signature (ap (option_and_then (message_of Request 0)) v.fixed_four.registry) there)
    (own-spelled (uint ∷ new None ∷ []) target.id 0 values (n, (((fits.fits 0 0 0).1.0, w, low), tt))
    (fits.len name version id))

pub of_named : (state : State) (target : Object) (name version : ℕ) (iface : List ℕ) (new : Option Object)
    → unannounced_answer state target name iface version ≡ Ok new → IsOfNamed state name iface version
of_named state target name version iface new e = by_place (place_of state.core.tables iface) refl
  where
    fit : can_bind state.core.tables iface version (any_global state.core.tables name iface) ≡ true
    fit = can state target name version iface new e

    by_place : (o : Option Iface) → place_of state.core.tables iface ≡ o → IsOfNamed state name iface version
    by_place None is =
        let none : can_bind state.core.tables iface version (any_global state.core.tables name iface) ≡ false = rw is refl in
        absurd (cc (none, fit))
    by_place (Some found) is =
        let n = named state.core.tables iface found is in
        let fits = and_parts (bytes_eq n.interface.name iface) _
        (sym (fitting state.core.tables iface name version found.0 n.interface is n.at) ∙ fit) in
        let versions = and_parts (nat_le 1 version) _ fits.1 in
        record {
          interface = n.interface;
          at = rw (is, n.at) n.at;
          named = n.same;
          version_is = rw (is, n.at) refl;
          some = leb-true 1 version versions.0;
          known = leb-true version n.interface.version
              (and_parts (nat_le version n.interface.version) _ versions.1).0;
        }
