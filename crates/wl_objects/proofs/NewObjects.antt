-- New objects, one argument after another.
use Rattle.std.proofs.Common.{◌≡◌, ℕ, zero, suc, ◌+◌, ◌<◌, ◌≤◌, false, List, [], ◌∷◌, length, get_or, drop, Some}
use Rattle.std.specs.List.{list_any}
use Rattle.std.proofs.Common.{None, refl, sym, ◌∙◌, add-one, drop-cons, drop-drop, slice_get}
use Rattle.std.proofs.lemmas.List.{drop_all}
use Rattle.std.proofs.lemmas.Option.{slice_get_within, get_or_from_slice_get}
use Rattle.std.proofs.lemmas.Bool.{or_parts}
use Rattle.wl_wire.specs.declared.kind.Kind.{Kind}
use Rattle.wl_wire.specs.declared.kind.Kind.TheVariants as kinds
use Rattle.wl_wire.specs.Argument.{Argument}
use Rattle.wl_sigs.specs.Tables.{Interface, is_new_object}
use Rattle.wl_objects.specs.declared.new_object.NewObject.{NewObject}
use Rattle.wl_objects.specs.Messages.{made, made_by}

pub made-next : (tables : List Interface) (version i : ℕ) (ks : List Kind) (k : Kind) (left more : List Argument)
    (v : Argument) → i < length ks → left ≡ v ∷ more
    → made_by tables version (get_or ks i k) v ≡ None
    → made tables version (drop i ks) left ≡ made tables version (drop (i + 1) ks) more
made-next tables version i ks k left more v p e h = rw (add-one, drop-cons ks i k p, e, h) refl

pub made-here : (tables : List Interface) (version i : ℕ) (ks : List Kind) (k : Kind) (left more : List Argument)
    (v : Argument) (m : NewObject) → i < length ks → left ≡ v ∷ more
    → made_by tables version (get_or ks i k) v ≡ Some m → made tables version (drop i ks) left ≡ Some m
made-here tables version i ks k left more v m p e h = rw (drop-cons ks i k p, e, h) refl

pub made-none : (tables : List Interface) (version i : ℕ) (ks : List Kind) (k : Kind) (left : List Argument)
    → i < length ks → left ≡ []
    → made tables version (drop i ks) left ≡ None
made-none tables version i ks k left p e = rw (drop-cons ks i k p, e) refl

pub made-end : (tables : List Interface) (version i : ℕ) (ks : List Kind) (left : List Argument) → length ks ≤ i
    → made tables version (drop i ks) left ≡ None
made-end tables version i ks left p = rw (drop_all i ks p) refl

-- ---- kinds that make no object

made_by-other : (tables : List Interface) (version : ℕ) (kind : Kind) (value : Argument) → is_new_object kind ≡ false
    → made_by tables version kind value ≡ None
made_by-other tables version kinds.Int value e = refl
made_by-other tables version kinds.Uint value e = refl
made_by-other tables version kinds.Fixed value e = refl
made_by-other tables version (kinds.Str null) value e = refl
made_by-other tables version (kinds.Obj null iface) value e = refl
made_by-other tables version (kinds.New iface) value e = absurd (cc)
made_by-other tables version (kinds.NewByServer iface) value e = absurd (cc)
made_by-other tables version kinds.Array value e = refl
made_by-other tables version kinds.Fd value e = refl

made-empty : (tables : List Interface) (version : ℕ) (ks : List Kind) → made tables version ks [] ≡ None
made-empty tables version [] = refl
made-empty tables version (kind ∷ ks) = refl

skip-one : (tables : List Interface) (version : ℕ) (kind : Kind) (ks : List Kind) (values : List Argument)
    → is_new_object kind ≡ false → made tables version (kind ∷ ks) values ≡ made tables version ks (drop 1 values)
skip-one tables version kind ks [] e = sym (made-empty tables version ks)
skip-one tables version kind ks (value ∷ values) e = rw (made_by-other tables version kind value e) refl

pub made-skip : (tables : List Interface) (version i : ℕ) (ks : List Kind) (k : Kind) (values : List Argument)
    → i < length ks → is_new_object (get_or ks i k) ≡ false
    → made tables version (drop i ks) (drop i values) ≡ made tables version (drop (i + 1) ks) (drop (i + 1) values)
made-skip tables version i ks k values p e =
    let behind : drop 1 (drop i values) ≡ drop (i + 1) values = drop-drop 1 i values in
    rw (drop-cons ks i k p)
    (skip-one tables version (get_or ks i k) (drop (suc i) ks) (drop i values) e
    ∙ rw (behind, add-one) refl)

-- a message makes no object if no kind is a new object
pub made-nothing : (tables : List Interface) (version : ℕ) (ks : List Kind) (values : List Argument)
    → list_any is_new_object ks ≡ false → made tables version ks values ≡ None
made-nothing tables version [] [] e = refl
made-nothing tables version [] (value ∷ values) e = refl
made-nothing tables version (kind ∷ ks) values e =
    let parts = or_parts (is_new_object kind) (list_any is_new_object ks) e in
    skip-one tables version kind ks values parts.0 ∙ made-nothing tables version ks (drop 1 values) parts.1

-- the value at a place, and those after it
pub left-at : (values : List Argument) (i : ℕ) (v : Argument) → Some v ≡ slice_get values i
    → drop i values ≡ v ∷ drop (i + 1) values
left-at values i v e =
    let inside = slice_get_within values i v (sym e) in
    let at : get_or values i v ≡ v = get_or_from_slice_get values i v v (sym e) in
    drop-cons values i v inside ∙ rw (at, add-one) refl

-- no value at a place
pub left-none : (values : List Argument) (i : ℕ) → None ≡ slice_get values i → drop i values ≡ []
left-none [] zero e = refl
left-none [] (suc i) e = refl
left-none (value ∷ values) zero e = absurd (cc)
left-none (value ∷ values) (suc i) e = left-none values i e
