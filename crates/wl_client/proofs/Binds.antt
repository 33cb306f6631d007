-- What an accepted bind writes is a spelling.
use Rattle.std.proofs.Common.{◌≡◌, ℕ, ◌<◌, ◌^◌, Bool, true, false, not, List, [], ◌∷◌, Some, None}
use Rattle.std.proofs.Common.{refl, sym, ap, subst, ◌∙◌, arith}
use Rattle.std.specs.Prelude.{Option, bytes_eq, if◌then◌else◌}
use Rattle.std.specs.Option.{option_and_then}
use Rattle.std.specs.declared.result.Result.{Result}
use Rattle.std.specs.declared.result.Result.TheVariants.{Ok, Err}
use Rattle.std.proofs.lemmas.Bool.{and_parts, not-false}
use Rattle.std.proofs.lemmas.Slice.Eq.{bytes_eq-Decides}
use Rattle.wl_wire.specs.declared.kind.Kind.{Kind}
use Rattle.wl_sigs.specs.Side.TheVariants.{Request}
use Rattle.wl_sigs.specs.Tables.{Interface, MessageSignature, interface_at, message_of}
use Rattle.wl_sigs.specs.Fixed.{uint, new, registry}
use Rattle.wl_sigs.specs.Valid.{Valid}
use Rattle.wl_object_map.specs.declared.object.Object.{Object}
use Rattle.wl_object_map.specs.declared.object.Entry.{Entry}
use Rattle.wl_object_map.specs.declared.object.Maker.TheVariants.{Client}
use Rattle.wl_object_map.specs.Objects.{next_id}
use Rattle.wl_object_map.specs.Views.{free_is, free_or_next-next_id}
use Rattle.wl_objects.specs.declared.error.SendError.{SendError}
use Rattle.wl_objects.specs.declared.error.SendError.TheVariants as refusals
use Rattle.wl_objects.specs.Writing.{bind_values, message_bytes, message_len}
use Rattle.wl_objects.specs.Messages.{live_row, same_iface}
use Rattle.wl_message.specs.Cut.{usual_limit}
use Rattle.wl_connection.specs.Sending.{fits, opening_answer}
use Rattle.wl_connection.specs.Spelled.{MessageSpells}
use Rattle.wl_connection.proofs.Spelled.{own-spelled}
use Rattle.wl_client.specs.State.{State, Global, global_of}
use Rattle.wl_client.specs.Calls.{can_bind, version_fits, bind_at, bind_answer, bound_object}
use Rattle.wl_client.specs.Binding.{FitsBind, BindSpells}
use Rattle.wl_client.proofs.Names.{name_fits}

-- ---- an interface that can be bound has a name that fits

fits_version : (tables : List Interface) → Valid tables
    → (iface : List ℕ) (version advertised place : ℕ) (o : Option Interface) → interface_at tables place ≡ o
    → version_fits version advertised o iface ≡ true → FitsBind iface
fits_version tables v iface version advertised place None e h = absurd (cc h)
fits_version tables v iface version advertised place (Some i) e h =
    let same : i.name ≡ iface = (bytes_eq-Decides i.name iface).0 (and_parts (bytes_eq i.name iface) _ h).0 in
    subst FitsBind same (name_fits i.name (v.names_distinct.interfaces_named place i e))

pub fits_global : (tables : List Interface) → Valid tables → (iface : List ℕ) (version : ℕ) (o : Option Global)
    → can_bind tables iface version o ≡ true → FitsBind iface
fits_global tables v iface version None h = absurd (cc h)
fits_global tables v iface version (Some g) h = fits_version tables v iface version g.version g.iface.0
    (interface_at tables g.iface.0) refl h

fits_row : (state : State) (name version : ℕ) (iface : List ℕ) (new : Option Object) (o : Option Entry)
    → Valid state.core.tables → bind_at state name iface version o ≡ Ok new → FitsBind iface
fits_row state name version iface new None v e = absurd (cc e)
fits_row state name version iface new (Some entry) v e = by_iface (not (same_iface entry.iface registry)) _ e
  where
    by_bind : (b : Bool) (x : Result (Option Object) SendError)
        → not (can_bind state.core.tables iface version (global_of state.globals name)) ≡ b
        → (if b then Err refusals.BadBind else x) ≡ Ok new → FitsBind iface
    by_bind true x t h = absurd (cc h)
    by_bind false x t h = fits_global state.core.tables v iface version (global_of state.globals name) (not-false _ t)

    by_iface : (b : Bool) (x : Result (Option Object) SendError)
        → (if b then Err refusals.NoSuchMessage else
        (if not (can_bind state.core.tables iface version (global_of state.globals name)) then Err refusals.BadBind
        else x)) ≡ Ok new → FitsBind iface
    by_iface true x h = absurd (cc h)
    by_iface false x h = by_bind (not (can_bind state.core.tables iface version (global_of state.globals name))) x refl
        h

fits_answer : (state : State) (target : Object) (name version : ℕ) (iface : List ℕ) (new : Option Object)
    → Valid state.core.tables → bind_answer state target name iface version ≡ Ok new → FitsBind iface
fits_answer state target name version iface new v e = by_failed state.core.failed e
  where
    by_failed : (b : Bool) → (if b then Err refusals.Failed
        else bind_at state name iface version (live_row state.core.view target)) ≡ Ok new → FitsBind iface
    by_failed true h = absurd (cc h)
    by_failed false h = fits_row state name version iface new (live_row state.core.view target) v h

-- ---- its bytes

pub kinds_in : (o : Option MessageSignature) (m signature : MessageSignature) → o ≡ Some m → o ≡ Some signature
    → m.kinds ≡ signature.kinds
kinds_in o m signature e there = let same = sym e ∙ there in let is : m ≡ signature = cc same
    in ap (λ (x : MessageSignature). x.kinds) is

pub bind_spells : (state : State) (target : Object) (name version : ℕ) (iface : List ℕ)
    → BindSpells state target name iface version
bind_spells state target name version iface v s n w made e signature there =
    let id = next_id Client state.core.view in
    let values = bind_values name iface version id in
    let f = free_is state.core.view.client id s.client (free_or_next-next_id state.core.view.client) in
    let low : id < 2 ^ 32 = omega (arith, f.at_most_next, s.client.ids_end) in
    let fits = fits_answer state target name version iface made v e in
    subst (λ (ks : List Kind). MessageSpells usual_limit ks target.id 0 values (message_bytes target.id 0 values))
    (kinds_in _ _ signature (ap (option_and_then (message_of Request 0)) v.fixed_four.registry) there)
    (own-spelled (uint ∷ new None ∷ []) target.id 0 values (n, (((fits.fits 0 0 0).1.0, w, low), tt))
    (fits.len name version id))

-- ---- an accepted bind opens its object

pub bind_opens : (state : State) (target : Object) (name : ℕ) (iface : List ℕ) (version : ℕ) (entry : Entry)
    (global : Global)
    → state.core.failed ≡ false → live_row state.core.view target ≡ Some entry
    → not (same_iface entry.iface registry) ≡ false → global_of state.globals name ≡ Some global
    → can_bind state.core.tables iface version (Some global) ≡ true
    → fits state.core.outbox (message_len (bind_values name iface version 0)) 0 ≡ true
    → bind_answer state target name iface version
    ≡ opening_answer state.core Client (Some (bound_object state name version))
bind_opens state target name iface version entry global lives row registers there can room =
    rw (lives, row, registers, ap (can_bind state.core.tables iface version) there ∙ can, room) refl
