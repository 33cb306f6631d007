-- An object is identified by its id and its birth.
use Rattle.std.proofs.Common.{◌≡◌, ◌≢◌, ℕ, false, Option, Some, None, IfSome, refl, sym, ap, subst}
use Rattle.std.proofs.lemmas.Map.Lookups.{exact_pairs, exact_unsigned}
use Rattle.std.specs.BTreeMap.{BTreeMap, get, is_at}
use Rattle.std.specs.Ordering.{is_eq, nat_cmp}
use Rattle.std.specs.declared.cmp.Ordering.{Ordering}
use Rattle.std.specs.declared.cmp.Ordering.TheVariants.{Less, Equal, Greater}
use Rattle.wl_object_map.specs.declared.object.Object.{Object}
use Rattle.wl_twins.specs.Twins.{key_cmp, twin_of}

not_equal : (o : Ordering) → o ≢ Equal → is_eq o ≡ false
not_equal Less differs = refl
not_equal Equal differs = absurd (differs refl)
not_equal Greater differs = refl

same_object : (x y : Object) → key_cmp (x.id, x.birth) (y.id, y.birth) ≡ Equal → x ≡ y
same_object x y tied = ap (λ (p : ℕ × ℕ). record { id = p.0; birth = p.1 })
    (exact_pairs nat_cmp nat_cmp exact_unsigned exact_unsigned (x.id, x.birth) (y.id, y.birth) tied)

-- different objects have different keys
told_apart : (x y : Object) → y ≢ x → is_at (key_cmp (x.id, x.birth)) (y.id, y.birth) ≡ false
told_apart x y differs = not_equal (key_cmp (x.id, x.birth) (y.id, y.birth))
    (λ tied. differs (sym (same_object x y tied)))

-- the value at an object's key is its twin
pub at_object : (m : BTreeMap (ℕ × ℕ) Object) (key : ℕ × ℕ) (x : Object) → key ≡ (x.id, x.birth)
    → get key_cmp m key ≡ twin_of m x
at_object m key x is = ap (λ (k : ℕ × ℕ). get key_cmp m k) is

-- if a map changes only at the key of x, any other object y keeps its twin
pub others_keep : (old new : BTreeMap (ℕ × ℕ) Object) (key : ℕ × ℕ) (x y : Object) → key ≡ (x.id, x.birth)
    → ((q : ℕ × ℕ) → is_at (key_cmp key) q ≡ false → get key_cmp new q ≡ get key_cmp old q)
    → y ≢ x → twin_of new y ≡ twin_of old y
others_keep old new key x y is others differs = others (y.id, y.birth)
    (subst (λ (k : ℕ × ℕ). is_at (key_cmp k) (y.id, y.birth) ≡ false) (sym is) (told_apart x y differs))

-- a twin that was found has no twin in this map
pub none_for_found : (found : Option Object) (twin : Object) (m : BTreeMap (ℕ × ℕ) Object) → Some twin ≡ found
    → twin_of m twin ≡ None → IfSome found (λ (t : Object). twin_of m t ≡ None)
none_for_found found twin m is none =
    subst (λ (o : Option Object). IfSome o (λ (t : Object). twin_of m t ≡ None)) is none

-- an object that differs from the found twin differs from `twin`
pub not_found : (found : Option Object) (twin other : Object) → Some twin ≡ found
    → IfSome found (λ (t : Object). other ≢ t) → other ≢ twin
not_found found twin other is differs =
    subst (λ (o : Option Object). IfSome o (λ (t : Object). other ≢ t)) (sym is) differs
