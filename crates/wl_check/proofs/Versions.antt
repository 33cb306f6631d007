-- The greatest version that was advertised, after one more advertisement.
use Rattle.std.proofs.Common.{◌≡◌, ℕ, Bool, true, false, cond, List, Some, max, ap, sym, ◌∙◌, refl, inl, inr}
use Rattle.std.specs.Prelude.{nat_eq, nat_lt}
use Rattle.std.proofs.lemmas.Bool.{and_right, cases_eq, eq-eqb, ne_eqb}
use Rattle.std.specs.BTreeMap.{is_at}
use Rattle.std.specs.Map.{lookup}
use Rattle.std.specs.Option.{unwrap_or}
use Rattle.std.specs.Ordering.{is_eq, nat_cmp, ordering_then}
use Rattle.std.specs.declared.cmp.Ordering.{Ordering}
use Rattle.std.specs.declared.cmp.Ordering.TheVariants.{Less, Equal, Greater}
use Rattle.wl_check.specs.declared.changes.AdvertisedGlobal.{AdvertisedGlobal}
use Rattle.wl_check.specs.Held.{pair_cmp}
use Rattle.wl_check.specs.Places.{advertised_once}
use Rattle.wl_check.proofs.Undone.{pair_itself}

unequal : (b : Bool) (o : Ordering) → is_eq (ordering_then (cond b Less Greater) o) ≡ false
unequal true o = refl
unequal false o = refl

unequal_last : (b : Bool) → is_eq (cond b Less Greater) ≡ false
unequal_last true = refl
unequal_last false = refl

first_apart : (x y : ℕ) (o : Ordering) → (x ≡ y → ⊥) → is_eq (ordering_then (nat_cmp x y) o) ≡ false
first_apart x y o apart = rw (ne_eqb x y apart) (unequal (nat_lt x y) o)

second_apart : (o : Ordering) (x y : ℕ) → (x ≡ y → ⊥) → is_eq (ordering_then o (nat_cmp x y)) ≡ false
second_apart Less x y apart = refl
second_apart Equal x y apart = rw (ne_eqb x y apart) (unequal_last (nat_lt x y))
second_apart Greater x y apart = refl

-- w is inserted at the global's key
pub version_more : (global : AdvertisedGlobal) (old new : List ((ℕ × ℕ) × ℕ)) (q : ℕ × ℕ) (w : ℕ)
    → w ≡ max global.version (unwrap_or (lookup (is_at (pair_cmp (global.name, global.iface.0))) old) 0)
    → lookup (is_at (pair_cmp q)) new ≡ cond (is_at (pair_cmp (global.name, global.iface.0)) q) (Some w)
    (lookup (is_at (pair_cmp q)) old)
    → unwrap_or (lookup (is_at (pair_cmp q)) new) 0
    ≡ advertised_once global q.0 q.1 (unwrap_or (lookup (is_at (pair_cmp q)) old) 0)
version_more global old new q w w_is now = elim (cases_eq global.name q.0) [
  | inl a ↦ elim (cases_eq global.iface.0 q.1) [
    | inl b ↦
        let key : ℕ × ℕ = (global.name, global.iface.0) in
        let same : key ≡ q = λ i. (a i, b i) in
        let at : is_at (pair_cmp key) q ≡ true =
        ap (λ (x : ℕ × ℕ). is_at (pair_cmp key) x) (sym same) ∙ ap is_eq (pair_itself key) in
        let found : lookup (is_at (pair_cmp q)) new ≡ Some w = rw at at now in
        rw (eq-eqb global.name q.0 a, eq-eqb global.iface.0 q.1 b) (ap (λ o. unwrap_or o 0) found ∙ w_is
        ∙ ap (λ (x : ℕ × ℕ). max global.version (unwrap_or (lookup (is_at (pair_cmp x)) old) 0)) same)
    | inr b ↦
        let away = second_apart (nat_cmp global.name q.0) global.iface.0 q.1 b in
        let found : lookup (is_at (pair_cmp q)) new ≡ lookup (is_at (pair_cmp q)) old = rw away at now in
        rw (and_right (nat_eq global.name q.0) (nat_eq global.iface.0 q.1) (ne_eqb global.iface.0 q.1 b))
        (ap (λ o. unwrap_or o 0) found)
  ]
  | inr a ↦
      let away = first_apart global.name q.0 (nat_cmp global.iface.0 q.1) a in
      let found : lookup (is_at (pair_cmp q)) new ≡ lookup (is_at (pair_cmp q)) old = rw away at now in
      rw (ne_eqb global.name q.0 a) (ap (λ o. unwrap_or o 0) found)
]
