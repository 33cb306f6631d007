-- What must be true of the kinds in a text if the kinds that they become keep the rules.
use Rattle.std.proofs.Common.{◌≡◌, ◌≢◌, ℕ, ◌<◌, true, false, List, [], ◌∷◌, map, refl, sym, ◌∙◌}
use Rattle.std.proofs.Common.{Some, None, Option, Bool, slice_get, not, ◌&&◌, arith}
use Rattle.std.specs.Prelude.{option_map, unwrap_or, is_some}
use Rattle.std.specs.List.{All, list_all}
use Rattle.std.specs.Option.{option_map_or}
use Rattle.std.proofs.lemmas.List.Elements.{All-head, All-tail}
use Rattle.wl_wire.specs.declared.kind.Kind.{Kind}
use Rattle.wl_wire.specs.declared.kind.Kind.TheVariants as kinds
use Rattle.wl_wire.specs.declared.kind.Iface.{Iface}
use Rattle.wl_sigs.specs.Tables.{Interface, interface_at, named_interface, has_destroying_event}
use Rattle.wl_text.specs.declared.written.BareKind.{BareKind}
use Rattle.wl_text.specs.declared.written.BareKind.TheVariants as bare
use Rattle.wl_text.specs.Text.{WrittenKind, needs_interface, takes_interface}
use Rattle.wl_sigs.specs.Joined.{iface_named, with_iface}
use Rattle.wl_sigs.specs.Broken.{is_new, is_object, is_ended}
use Rattle.wl_sigs.proofs.PlacedKinds.{NotEndedIn}

abbrev as_iface : ℕ → Iface
as_iface place = record { 0 = place }

-- a test passes for each written kind, given that it passes wherever P holds for what the kind
-- becomes
pub all_tested : (test : WrittenKind → Bool) (f : WrittenKind → Kind) (P : Kind → Type 0)
    → ((k : WrittenKind) → P (f k) → test k ≡ true) → (ks : List WrittenKind)
    → All P (map f ks) → list_all test ks ≡ true
all_tested test f P each [] all = refl
all_tested test f P each (k ∷ ks) all =
    rw (each k (All-head P (f k) (map f ks) all), all_tested test f P each ks (All-tail P (f k) (map f ks) all)) refl

-- V5
pub was_named : (place : List ℕ → Option ℕ) (past : ℕ) (kind : BareKind) (iface : Option (List ℕ))
    → with_iface past kind (option_map (iface_named place past) iface) ≢ kinds.New None
    → not (is_new kind && not (is_some iface)) ≡ true
was_named place past bare.Int iface never = refl
was_named place past bare.Uint iface never = refl
was_named place past bare.Fixed iface never = refl
was_named place past (bare.Str null) iface never = refl
was_named place past (bare.Obj null) iface never = refl
was_named place past bare.New None never = absurd (never refl)
was_named place past bare.New (Some name) never = refl
was_named place past bare.NewByServer iface never = refl
was_named place past bare.Array iface never = refl
was_named place past bare.Fd iface never = refl

-- V6
pub was_no_any : (place : List ℕ → Option ℕ) (past : ℕ) (kind : BareKind) (iface : Option (List ℕ))
    → ((null : Bool) → with_iface past kind (option_map (iface_named place past) iface) ≢ kinds.Obj null None)
    → not (is_object kind && not (is_some iface)) ≡ true
was_no_any place past bare.Int iface never = refl
was_no_any place past bare.Uint iface never = refl
was_no_any place past bare.Fixed iface never = refl
was_no_any place past (bare.Str n) iface never = refl
was_no_any place past (bare.Obj n) None never = absurd (never n refl)
was_no_any place past (bare.Obj n) (Some name) never = refl
was_no_any place past bare.New iface never = refl
was_no_any place past bare.NewByServer iface never = refl
was_no_any place past bare.Array iface never = refl
was_no_any place past bare.Fd iface never = refl

-- V9
placed_there : (past : ℕ) (o : Option ℕ) → unwrap_or o past < past → not (not (is_some o)) ≡ true
placed_there past None lt = absurd (omega (arith, lt))
placed_there past (Some p) lt = refl

pub was_there : (place : List ℕ → Option ℕ) (past : ℕ) (kind : BareKind) (iface : Option (List ℕ))
    → ((i : Iface) → named_interface (with_iface past kind (option_map (iface_named place past) iface)) ≡ Some i
    → i.0 < past)
    → not (takes_interface kind && option_map_or (λ name. not (is_some (place name))) iface (needs_interface kind)) ≡ true
was_there place past bare.Int iface below = refl
was_there place past bare.Uint iface below = refl
was_there place past bare.Fixed iface below = refl
was_there place past (bare.Str null) iface below = refl
was_there place past (bare.Obj null) None below = refl
was_there place past (bare.Obj null) (Some name) below =
    placed_there past (place name) (below (as_iface (unwrap_or (place name) past)) refl)
was_there place past bare.New None below = refl
was_there place past bare.New (Some name) below =
    placed_there past (place name) (below (as_iface (unwrap_or (place name) past)) refl)
was_there place past bare.NewByServer None below = absurd (let lt = below (as_iface past) refl in omega (arith, lt))
was_there place past bare.NewByServer (Some name) below =
    placed_there past (place name) (below (as_iface (unwrap_or (place name) past)) refl)
was_there place past bare.Array iface below = refl
was_there place past bare.Fd iface below = refl

-- V7: `ended` says which interfaces of the tables have a destroying event, and is no longer than
-- the tables
pub was_not_ended : (tables : List Interface) (place : List ℕ → Option ℕ) (past : ℕ) (ended : List Bool)
    → ((p : ℕ) (b : Bool) → slice_get ended p ≡ Some b
    → (i : Interface) × (interface_at tables p ≡ Some i) × (has_destroying_event i ≡ b))
    → (kind : BareKind) (iface : Option (List ℕ)) → NotEndedIn tables
    (with_iface past kind (option_map (iface_named place past) iface))
    → not (is_object kind && option_map_or (λ name. is_ended ended (place name)) iface false) ≡ true
was_not_ended tables place past ended ends bare.Int iface free = refl
was_not_ended tables place past ended ends bare.Uint iface free = refl
was_not_ended tables place past ended ends bare.Fixed iface free = refl
was_not_ended tables place past ended ends (bare.Str n) iface free = refl
was_not_ended tables place past ended ends (bare.Obj n) None free = refl
was_not_ended tables place past ended ends (bare.Obj n) (Some name) free =
    object_free (place name) (λ i at. free n (as_iface (unwrap_or (place name) past)) i refl at)
  where
    not_true : (o : Option Bool) → ((b : Bool) → o ≡ Some b → b ≡ false) → not (option_map_or (λ b. b) o false) ≡ true
    not_true None all = refl
    not_true (Some b) all = rw (all b refl) refl

    object_free : (o : Option ℕ) → ((i : Interface) → interface_at tables (unwrap_or o past) ≡ Some i
        → has_destroying_event i ≡ false) → not (is_ended ended o) ≡ true
    object_free None all = refl
    object_free (Some p) all = not_true (slice_get ended p) (λ b at. let witness = ends p b at in sym witness.2 ∙ all witness.0 witness.1)
was_not_ended tables place past ended ends bare.New iface free = refl
was_not_ended tables place past ended ends bare.NewByServer iface free = refl
was_not_ended tables place past ended ends bare.Array iface free = refl
was_not_ended tables place past ended ends bare.Fd iface free = refl
