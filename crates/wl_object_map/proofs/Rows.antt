-- A `BTreeMap`'s entries as a finite map.
use Rattle.std.proofs.Common.{◌≡◌, ℕ, List, [], ◌∷◌, refl, sym, ◌∙◌, ap, cond}
use Rattle.std.specs.Ordering.{nat_cmp}
use Rattle.std.specs.Cmp.{nat_cmp_total, eq_by_cmp_equiv}
use Rattle.std.specs.BTreeMap.{is_at}
use Rattle.std.specs.Map.{lookup}
use Rattle.std.specs.FinMap.{FinMap, find, get, insert, remove, from_entries, get-from_entries}
use Rattle.std.specs.FinMap.{get-insert, get-remove, same_map, nat_cmp-IsAntisymmetric}
use Rattle.std.specs.declared.option.Option.TheVariants.{None, Some}
use Rattle.wl_object_map.specs.View.{View}
use Rattle.wl_object_map.specs.declared.object.Entry.{Entry}

module _ {X : Type 0} where
  find_rows : (es : List (ℕ × X)) (q : ℕ) → find nat_cmp q es ≡ lookup (is_at (nat_cmp q)) es
  find_rows [] q = refl
  find_rows (e ∷ es) q = ap (cond (is_at (nat_cmp q) e.0) (Some e.1)) (find_rows es q)

  -- the entry of an id in the finite map
  pub get_rows : (es : List (ℕ × X)) (q : ℕ) → get (from_entries {R = nat_cmp} es) q ≡ lookup (is_at (nat_cmp q)) es
  get_rows es q = get-from_entries nat_cmp_total es q ∙ find_rows es q

  -- entries with v at k, and otherwise those of es
  pub rows_insert : (es fs : List (ℕ × X)) (k : ℕ) (v : X)
      → ((q : ℕ) → lookup (is_at (nat_cmp q)) fs ≡ cond (is_at (nat_cmp k) q) (Some v) (lookup (is_at (nat_cmp q)) es))
      → from_entries {R = nat_cmp} fs ≡ insert (from_entries es) k v
  rows_insert es fs k v h = same_map nat_cmp_total nat_cmp-IsAntisymmetric _ _ (λ q.
      get_rows fs q ∙ h q ∙ ap (λ b. cond b (Some v) (lookup (is_at (nat_cmp q)) es))
      ((eq_by_cmp_equiv nat_cmp_total).symm k q)
      ∙ sym (get-insert nat_cmp_total (from_entries es) k v q
      ∙ ap (cond (is_at (nat_cmp q) k) (Some v)) (get_rows es q)))

  -- entries with nothing at k, and otherwise those of es
  pub rows_remove : (es fs : List (ℕ × X)) (k : ℕ)
      → ((q : ℕ) → lookup (is_at (nat_cmp q)) fs ≡ cond (is_at (nat_cmp k) q) None (lookup (is_at (nat_cmp q)) es))
      → from_entries {R = nat_cmp} fs ≡ remove (from_entries es) k
  rows_remove es fs k h = same_map nat_cmp_total nat_cmp-IsAntisymmetric _ _ (λ q.
      get_rows fs q ∙ h q ∙ ap (λ b. cond b None (lookup (is_at (nat_cmp q)) es))
      ((eq_by_cmp_equiv nat_cmp_total).symm k q)
      ∙ sym (get-remove nat_cmp_total (from_entries es) k q ∙ ap (cond (is_at (nat_cmp q) k) None) (get_rows es q)))

-- views whose parts are all equal
pub same_view : {m n : FinMap nat_cmp Entry} {xs ys : List ℕ} {t u : ℕ} (births : ℕ) → m ≡ n → xs ≡ ys → t ≡ u
    → ◌≡◌ {A = View} (record { rows = m; freed = xs; used = t; births = births })
    (record { rows = n; freed = ys; used = u; births = births })
same_view births e f g = λ i. record { rows = e i; freed = f i; used = g i; births = births }
