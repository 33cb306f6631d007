-- What the kinds in a text become in the tables.
use Rattle.std.proofs.Common.{◌≡◌, ◌≢◌, ℕ, ◌+◌, ◌<◌, true, false, List, [], ◌∷◌, length, map, refl}
use Rattle.std.proofs.Common.{sym, ◌∙◌, subst, Some, None, Option, Bool, slice_get, not, cond, ◌&&◌}
use Rattle.std.proofs.Common.{arith}
use Rattle.std.specs.Prelude.{option_map, unwrap_or, is_some}
use Rattle.std.specs.List.{All, list_all, count_by}
use Rattle.std.specs.Option.{option_map_or}
use Rattle.std.proofs.lemmas.List.Elements.{All-cons, All-nil}
use Rattle.std.proofs.lemmas.List.Sums.{sum_by-cons}
use Rattle.std.proofs.lemmas.Bool.{and_parts}
use Rattle.wl_wire.specs.declared.kind.Kind.{Kind}
use Rattle.wl_wire.specs.declared.kind.Kind.TheVariants as kinds
use Rattle.wl_wire.specs.declared.kind.Iface.{Iface}
use Rattle.wl_sigs.specs.Tables.{Interface, interface_at, new_objects, named_interface, has_destroying_event}
use Rattle.wl_text.specs.declared.written.BareKind.{BareKind}
use Rattle.wl_text.specs.declared.written.BareKind.TheVariants as bare
use Rattle.wl_text.specs.Text.{WrittenKind, needs_interface, takes_interface}
use Rattle.wl_sigs.specs.Joined.{iface_named, with_iface, kind_placed}
use Rattle.wl_sigs.specs.Broken.{is_new, is_object, makes_object, is_ended}

abbrev as_iface : ℕ → Iface
as_iface place = record { 0 = place }

-- if a test passes for each written kind, P holds for each kind that they become
pub all_placed : (test : WrittenKind → Bool) (f : WrittenKind → Kind) (P : Kind → Type 0)
    → ((k : WrittenKind) → test k ≡ true → P (f k)) → (ks : List WrittenKind)
    → list_all test ks ≡ true → All P (map f ks)
all_placed test f P each [] all = All-nil P
all_placed test f P each (k ∷ ks) all =
    let b = and_parts (test k) (list_all test ks) all in
    All-cons P (f k) (map f ks) (each k b.0) (all_placed test f P each ks b.1)

-- the number of new objects stays the same
counted : (place : List ℕ → Option ℕ) (past : ℕ) (kind : BareKind) (iface : Option (List ℕ)) (more : List Kind) (n : ℕ)
    → length (new_objects more) ≡ n
    → length (new_objects (with_iface past kind (option_map (iface_named place past) iface) ∷ more))
    ≡ cond (is_new kind) 1 0 + n
counted place past bare.Int iface more n e = omega arith
counted place past bare.Uint iface more n e = omega arith
counted place past bare.Fixed iface more n e = omega arith
counted place past (bare.Str null) iface more n e = omega arith
counted place past (bare.Obj null) iface more n e = omega arith
counted place past bare.New iface more n e = omega arith
counted place past bare.NewByServer iface more n e = omega arith
counted place past bare.Array iface more n e = omega arith
counted place past bare.Fd iface more n e = omega arith

pub count_placed : (place : List ℕ → Option ℕ) (past : ℕ) (ks : List WrittenKind)
    → length (new_objects (map (kind_placed place past) ks)) ≡ count_by makes_object ks
count_placed place past [] = refl
count_placed place past (k ∷ ks) =
    rw (sum_by-cons (λ (x : WrittenKind). cond (makes_object x) 1 0) k ks)
    (counted place past k.kind k.iface (map (kind_placed place past) ks) (count_by makes_object ks)
    (count_placed place past ks))

-- V5
pub not_unnamed : (place : List ℕ → Option ℕ) (past : ℕ) (kind : BareKind) (iface : Option (List ℕ))
    → not (is_new kind && not (is_some iface)) ≡ true
    → with_iface past kind (option_map (iface_named place past) iface) ≢ kinds.New None
not_unnamed place past bare.Int iface t e = cc e
not_unnamed place past bare.Uint iface t e = cc e
not_unnamed place past bare.Fixed iface t e = cc e
not_unnamed place past (bare.Str null) iface t e = cc e
not_unnamed place past (bare.Obj null) iface t e = cc e
not_unnamed place past bare.New None t e = cc t
not_unnamed place past bare.New (Some name) t e = cc e
not_unnamed place past bare.NewByServer iface t e = cc e
not_unnamed place past bare.Array iface t e = cc e
not_unnamed place past bare.Fd iface t e = cc e

-- V6
pub not_any : (place : List ℕ → Option ℕ) (past : ℕ) (kind : BareKind) (iface : Option (List ℕ))
    → not (is_object kind && not (is_some iface)) ≡ true
    → (null : Bool) → with_iface past kind (option_map (iface_named place past) iface) ≢ kinds.Obj null None
not_any place past bare.Int iface t null e = cc e
not_any place past bare.Uint iface t null e = cc e
not_any place past bare.Fixed iface t null e = cc e
not_any place past (bare.Str n) iface t null e = cc e
not_any place past (bare.Obj n) None t null e = cc t
not_any place past (bare.Obj n) (Some name) t null e = cc e
not_any place past bare.New iface t null e = cc e
not_any place past bare.NewByServer iface t null e = cc e
not_any place past bare.Array iface t null e = cc e
not_any place past bare.Fd iface t null e = cc e

-- V9
there_named : (place : List ℕ → Option ℕ) (past : ℕ) → ((name : List ℕ) (p : ℕ) → place name ≡ Some p → p < past)
    → (name : List ℕ) (o : Option ℕ) → place name ≡ o
    → not (not (is_some o)) ≡ true → (i : Iface) → Some (as_iface (unwrap_or o past)) ≡ Some i → i.0 < past
there_named place past within name None is t i e = cc t
there_named place past within name (Some p) is t i e =
    let lt = within name p is in
    let same : as_iface p ≡ i = cc in
    subst (λ (x : Iface). x.0 < past) same lt

pub there : (place : List ℕ → Option ℕ) (past : ℕ) → ((name : List ℕ) (p : ℕ) → place name ≡ Some p → p < past)
    → (kind : BareKind) (iface : Option (List ℕ))
    → not (takes_interface kind && option_map_or (λ name. not (is_some (place name))) iface (needs_interface kind)) ≡ true
    → (i : Iface) → named_interface (with_iface past kind (option_map (iface_named place past) iface)) ≡ Some i → i.0 < past
there place past within bare.Int iface t i e = cc e
there place past within bare.Uint iface t i e = cc e
there place past within bare.Fixed iface t i e = cc e
there place past within (bare.Str null) iface t i e = cc e
there place past within (bare.Obj null) None t i e = cc e
there place past within (bare.Obj null) (Some name) t i e =
    there_named place past within name (place name) refl t i e
there place past within bare.New None t i e = cc e
there place past within bare.New (Some name) t i e = there_named place past within name (place name) refl t i e
there place past within bare.NewByServer None t i e = cc t
there place past within bare.NewByServer (Some name) t i e =
    there_named place past within name (place name) refl t i e
there place past within bare.Array iface t i e = cc e
there place past within bare.Fd iface t i e = cc e

-- V7: an object of an interface that no event destroys
abbrev pub NotEndedIn : List Interface → Kind → Type 0
NotEndedIn tables k = (null : Bool) (iface : Iface) (i : Interface) → k ≡ kinds.Obj null (Some iface)
    → interface_at tables iface.0 ≡ Some i → has_destroying_event i ≡ false

pub not_ended : (tables : List Interface) (place : List ℕ → Option ℕ) (past : ℕ) (ended : List Bool)
    → ((p : ℕ) (i : Interface) → interface_at tables p ≡ Some i → slice_get ended p ≡ Some (has_destroying_event i))
    → interface_at tables past ≡ None
    → (kind : BareKind) (iface : Option (List ℕ)) → not
    (is_object kind && option_map_or (λ name. is_ended ended (place name)) iface false) ≡ true
    → NotEndedIn tables (with_iface past kind (option_map (iface_named place past) iface))
not_ended tables place past ended ends none bare.Int iface t null f i e at = cc e
not_ended tables place past ended ends none bare.Uint iface t null f i e at = cc e
not_ended tables place past ended ends none bare.Fixed iface t null f i e at = cc e
not_ended tables place past ended ends none (bare.Str n) iface t null f i e at = cc e
not_ended tables place past ended ends none (bare.Obj n) None t null f i e at = cc e
not_ended tables place past ended ends none (bare.Obj n) (Some name) t null f i e at =
    let same : as_iface (unwrap_or (place name) past) ≡ f = cc e in
    object_ended (place name) t (subst (λ (y : Iface). interface_at tables y.0 ≡ Some i) (sym same) at)
  where
    is_false : (o : Option Bool) (b : Bool) → o ≡ Some b → not (option_map_or (λ x. x) o false) ≡ true → b ≡ false
    is_false o true is t = let no : not true ≡ true = rw is at t in cc no
    is_false o false is t = refl

    object_ended : (o : Option ℕ) → not (is_ended ended o) ≡ true → interface_at tables (unwrap_or o past) ≡ Some i
        → has_destroying_event i ≡ false
    object_ended None t at = let no : None ≡ Some i = sym none ∙ at in cc no
    object_ended (Some p) t at = is_false (slice_get ended p) (has_destroying_event i) (ends p i at) t
not_ended tables place past ended ends none bare.New iface t null f i e at = cc e
not_ended tables place past ended ends none bare.NewByServer iface t null f i e at = cc e
not_ended tables place past ended ends none bare.Array iface t null f i e at = cc e
not_ended tables place past ended ends none bare.Fd iface t null f i e at = cc e
