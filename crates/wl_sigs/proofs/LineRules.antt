-- What each test of a line says, in the words of its rule.
use Rattle.std.proofs.Common.{◌≡◌, ℕ, suc, ◌⊎◌, inl, inr, ◌<◌, ◌≤◌, ◌==◌, true, false, List, []}
use Rattle.std.proofs.Common.{◌∷◌, map, refl, ap, ◌∙◌, subst, Some, None, Option, Bool, slice_get}
use Rattle.std.proofs.Common.{not, ◌&&◌, arith}
use Rattle.std.specs.Prelude.{option_map, unwrap_or, is_some}
use Rattle.std.specs.List.{All, Contains, list_all}
use Rattle.std.specs.Option.{option_map_or}
use Rattle.std.proofs.lemmas.Option.{slice_get-map, slice_get_within, get_or_from_slice_get}
use Rattle.std.proofs.lemmas.Bool.{not-false, false_from_ne_true}
use Rattle.wl_wire.specs.declared.kind.Kind.{Kind}
use Rattle.wl_wire.specs.declared.kind.Kind.TheVariants as kinds
use Rattle.wl_wire.specs.declared.kind.Iface.{Iface}
use Rattle.wl_sigs.specs.Tables.{Interface, interface_at, named_interface, has_destroying_event}
use Rattle.wl_text.specs.declared.written.BareKind.{BareKind}
use Rattle.wl_text.specs.declared.written.BareKind.TheVariants as bare
use Rattle.wl_text.specs.Text.{WrittenKind, needs_interface, takes_interface}
use Rattle.wl_sigs.specs.Joined.{first_place, iface_named, with_iface}
use Rattle.wl_sigs.specs.Broken.{is_first, is_new, is_object, is_ended}
use Rattle.wl_rules.proofs.FirstPlaces.{first_place-of, first_place-le}
use Rattle.wl_sigs.proofs.PlacedKinds.{all_placed}

abbrev as_iface : ℕ → Iface
as_iface place = record { 0 = place }

-- elements

pub contains : {X : Type 0} (xs : List X) (k : ℕ) (x : X) → slice_get xs k ≡ Some x → Contains xs x
contains xs k x at = (k, slice_get_within xs k x at, get_or_from_slice_get xs k x x at)

all_contain : {X : Type 0} (P : X → Type 0) (xs : List X) (x : X) → All P xs → Contains xs x → P x
all_contain P xs x all witness = subst P witness.2 (all witness.0 x witness.1)

-- an element at which a test fails
fails_at : {X : Type 0} (test : X → Bool) (xs : List X) → list_all test xs ≡ false
    → (k : ℕ) × (x : X) × (slice_get xs k ≡ Some x) × (test x ≡ false)
fails_at test [] e = cc e
fails_at {X} test (x ∷ xs) e = here (test x) refl e (λ rest. fails_at test xs rest)
  where
    here : (t : Bool) → test x ≡ t → t && list_all test xs ≡ false
        → (list_all test xs ≡ false → (k : ℕ) × (y : X) × (slice_get xs k ≡ Some y) × (test y ≡ false))
        → (k : ℕ) × (y : X) × (slice_get (x ∷ xs) k ≡ Some y) × (test y ≡ false)
    here false is e rest = (0, x, refl, is)
    here true is e rest = let r = rest e in (suc r.0, r.1, r.2, r.3)

pub either_fails : (a b : Bool) → a && b ≡ false → (a ≡ false) ⊎ ((a ≡ true) × (b ≡ false))
either_fails true b e = inr (refl, e)
either_fails false b e = inl refl

-- a written kind that passes the test, and the kind that it becomes
pub record SomeKind (test : WrittenKind → Bool) (f : WrittenKind → Kind) (ks : List WrittenKind) : Type 0 where
  pub kind : WrittenKind
  pub passes : test kind ≡ true
  pub there : Contains (map f ks) (f kind)

pub some_kind : (test : WrittenKind → Bool) (f : WrittenKind → Kind) (ks : List WrittenKind)
    → list_all (λ k. not (test k)) ks ≡ false → SomeKind test f ks
some_kind test f ks fails =
    let witness = fails_at (λ k. not (test k)) ks fails in
    record {
      kind = witness.1;
      passes = not-false (test witness.1) witness.3;
      there = contains (map f ks) witness.0 (f witness.1) (slice_get-map f ks witness.0 ∙ ap (option_map f) witness.2);
    }

-- a test of all kinds fails if one of the kinds that they become does not satisfy P
pub kinds_fail : (test : WrittenKind → Bool) (f : WrittenKind → Kind) (P : Kind → Type 0)
    → ((k : WrittenKind) → not (test k) ≡ true → P (f k)) → (ks : List WrittenKind) (kind : Kind)
    → Contains (map f ks) kind → ¬ P kind → list_all (λ k. not (test k)) ks ≡ false
kinds_fail test f P each ks kind at never =
    false_from_ne_true (list_all (λ k. not (test k)) ks)
    (λ all. never (all_contain P (map f ks) kind (all_placed (λ k. not (test k)) f P each ks all) at))

-- V5
pub unnamed_is : (place : List ℕ → Option ℕ) (past : ℕ) (kind : BareKind) (iface : Option (List ℕ))
    → is_new kind && not (is_some iface) ≡ true
    → with_iface past kind (option_map (iface_named place past) iface) ≡ kinds.New None
unnamed_is place past bare.Int iface t = cc t
unnamed_is place past bare.Uint iface t = cc t
unnamed_is place past bare.Fixed iface t = cc t
unnamed_is place past (bare.Str null) iface t = cc t
unnamed_is place past (bare.Obj null) iface t = cc t
unnamed_is place past bare.New None t = refl
unnamed_is place past bare.New (Some name) t = cc t
unnamed_is place past bare.NewByServer iface t = cc t
unnamed_is place past bare.Array iface t = cc t
unnamed_is place past bare.Fd iface t = cc t

-- V6
pub any_is : (place : List ℕ → Option ℕ) (past : ℕ) (kind : BareKind) (iface : Option (List ℕ))
    → is_object kind && not (is_some iface) ≡ true
    → (null : Bool) × (with_iface past kind (option_map (iface_named place past) iface) ≡ kinds.Obj null None)
any_is place past bare.Int iface t = cc t
any_is place past bare.Uint iface t = cc t
any_is place past bare.Fixed iface t = cc t
any_is place past (bare.Str null) iface t = cc t
any_is place past (bare.Obj null) None t = (null, refl)
any_is place past (bare.Obj null) (Some name) t = cc t
any_is place past bare.New iface t = cc t
any_is place past bare.NewByServer iface t = cc t
any_is place past bare.Array iface t = cc t
any_is place past bare.Fd iface t = cc t

-- V7: an object of an interface that has a destroying event
pub record IsEnded (tables : List Interface) (kind : Kind) : Type 0 where
  pub null : Bool
  pub iface : Iface
  pub interface : Interface
  pub is : kind ≡ kinds.Obj null (Some iface)
  pub at : interface_at tables iface.0 ≡ Some interface
  pub ends : has_destroying_event interface ≡ true

pub ended_named : (tables : List Interface) (place : List ℕ → Option ℕ) (past : ℕ) (ended : List Bool)
    → ((p : ℕ) (b : Bool) → slice_get ended p ≡ Some b
    → (i : Interface) × (interface_at tables p ≡ Some i) × (has_destroying_event i ≡ b))
    → (kind : BareKind) (iface : Option (List ℕ)) → is_object kind
    && option_map_or (λ name. is_ended ended (place name)) iface false ≡ true
    → IsEnded tables (with_iface past kind (option_map (iface_named place past) iface))
ended_named tables place past ended ends bare.Int iface t = cc t
ended_named tables place past ended ends bare.Uint iface t = cc t
ended_named tables place past ended ends bare.Fixed iface t = cc t
ended_named tables place past ended ends (bare.Str n) iface t = cc t
ended_named tables place past ended ends (bare.Obj null) None t = cc t
ended_named tables place past ended ends (bare.Obj null) (Some name) t = by_place (place name) refl t
  where
    by_mark : (p : ℕ) → place name ≡ Some p → (o : Option Bool) → slice_get ended p ≡ o
        → option_map_or (λ b. b) o false ≡ true
        → IsEnded tables (kinds.Obj null (Some (iface_named place past name)))
    by_mark p named None at t = cc t
    by_mark p named (Some b) at t =
        let witness = ends p b at in
        record {
          null = null;
          iface = iface_named place past name;
          interface = witness.0;
          is = refl;
          at = rw named witness.1;
          ends = witness.2 ∙ t;
        }

    by_place : (o : Option ℕ) → place name ≡ o → is_ended ended o ≡ true
        → IsEnded tables (kinds.Obj null (Some (iface_named place past name)))
    by_place None named t = cc t
    by_place (Some p) named t = by_mark p named (slice_get ended p) refl t
ended_named tables place past ended ends bare.New iface t = cc t
ended_named tables place past ended ends bare.NewByServer iface t = cc t
ended_named tables place past ended ends bare.Array iface t = cc t
ended_named tables place past ended ends bare.Fd iface t = cc t

-- V9: an interface that does not exist has an index past all
missing_past : (past : ℕ) (o : Option ℕ) → not (is_some o) ≡ true → past ≤ unwrap_or o past
missing_past past None t = omega arith
missing_past past (Some p) t = cc t

pub missing_named : (place : List ℕ → Option ℕ) (past : ℕ) (kind : BareKind) (iface : Option (List ℕ))
    → takes_interface kind && option_map_or (λ name. not (is_some (place name))) iface (needs_interface kind) ≡ true
    → (i : Iface) × (named_interface (with_iface past kind (option_map (iface_named place past) iface)) ≡ Some i)
    × (past ≤ i.0)
missing_named place past bare.Int iface t = cc t
missing_named place past bare.Uint iface t = cc t
missing_named place past bare.Fixed iface t = cc t
missing_named place past (bare.Str null) iface t = cc t
missing_named place past (bare.Obj null) None t = cc t
missing_named place past (bare.Obj null) (Some name) t =
    (iface_named place past name, refl, missing_past past (place name) t)
missing_named place past bare.New None t = cc t
missing_named place past bare.New (Some name) t =
    (iface_named place past name, refl, missing_past past (place name) t)
missing_named place past bare.NewByServer None t = (as_iface past, refl, omega arith)
missing_named place past bare.NewByServer (Some name) t =
    (iface_named place past name, refl, missing_past past (place name) t)
missing_named place past bare.Array iface t = cc t
missing_named place past bare.Fd iface t = cc t

-- V1: a name that is not the first at its place
pub earlier_name : (names : List (List ℕ)) (name : List ℕ) (here : ℕ) → slice_get names here ≡ Some name
    → is_first (first_place names) name here ≡ false
    → (earlier : ℕ) × (earlier < here) × (slice_get names earlier ≡ Some name)
earlier_name names name here at fails =
    let first = first_place-of names name here at in
    let le = first_place-le names name first.0 here first.1 at in
    let differs : first.0 == here ≡ false = rw first.1 at fails in
    (first.0, less first.0 here le differs, first.2)
  where
    less : (p q : ℕ) → p ≤ q → p == q ≡ false → p < q
    less p q le differs = grind arith

pub not_first : (names : List (List ℕ)) (name : List ℕ) (here earlier : ℕ) → earlier < here
    → slice_get names earlier ≡ Some name → is_first (first_place names) name here ≡ false
not_first names name here earlier lt at =
    let first = first_place-of names name earlier at in
    let le = first_place-le names name first.0 earlier first.1 at in
    rw first.1 (differ first.0 here (omega (arith, le, lt)))
  where
    differ : (p q : ℕ) → p < q → p == q ≡ false
    differ p q lt = grind arith
