-- A test that decides whether the names in a list are distinct.
use Rattle.std.proofs.Common.{◌≡◌, ℕ, zero, suc, List, [], ◌∷◌, refl, sym, ◌∙◌, ap, map, slice_get, not, bytes_eq, Some}
use Rattle.std.proofs.Common.{option_map}
use Rattle.std.specs.List.{list_all}
use Rattle.std.specs.Bool.{Decides}
use Rattle.std.proofs.lemmas.Bool.Decides.{Decides-like, Decides-and, Decides-not}
use Rattle.std.proofs.lemmas.Option.{slice_get-map}
use Rattle.std.proofs.lemmas.Slice.Eq.{bytes_eq-Decides}
use Rattle.wl_sigs.proofs.JoinedLookup.{mapped_some}
use Rattle.wl_sigs.specs.Rules.{are_distinct}
use Rattle.wl_sigs.proofs.TestsDecide.{Decides-each}

-- equal names are at the same place
abbrev Distinct : List (List ℕ) → Type 0
Distinct names = (p q : ℕ) (name : List ℕ) → slice_get names p ≡ Some name → slice_get names q ≡ Some name → p ≡ q

distinct_cons : (name : List ℕ) (names : List (List ℕ))
    → ((k : ℕ) (other : List ℕ) → slice_get names k ≡ Some other → ¬ (name ≡ other)) → Distinct names
    → Distinct (name ∷ names)
distinct_cons name names differs rest zero zero x at at' = refl
distinct_cons name names differs rest zero (suc q) x at at' = absurd (differs q x at' cc)
distinct_cons name names differs rest (suc p) zero x at at' = absurd (differs p x at cc)
distinct_cons name names differs rest (suc p) (suc q) x at at' = ap suc (rest p q x at at')

distinct_head : (name : List ℕ) (names : List (List ℕ)) → Distinct (name ∷ names) → (k : ℕ) (other : List ℕ)
    → slice_get names k ≡ Some other → ¬ (name ≡ other)
distinct_head name names distinct k other at same = let e = distinct zero (suc k) name refl (at ∙ ap Some (sym same))
    in cc

distinct_tail : (name : List ℕ) (names : List (List ℕ)) → Distinct (name ∷ names) → Distinct names
distinct_tail name names distinct p q x at at' = let e = distinct (suc p) (suc q) x at at' in cc

Decides-distinct : (names : List (List ℕ)) → Decides (are_distinct names) (Distinct names)
Decides-distinct [] = (λ _ p q name at at'. cc, λ _. refl)
Decides-distinct (name ∷ names) =
    Decides-like (are_distinct (name ∷ names)) (λ both. distinct_cons name names both.0 both.1)
    (λ all. (distinct_head name names all, distinct_tail name names all))
    (Decides-and (list_all (λ other. not (bytes_eq name other)) names) (are_distinct names)
    (Decides-each (λ other. not (bytes_eq name other)) (λ other. ¬ (name ≡ other))
    (λ other. Decides-not (bytes_eq name other) (bytes_eq-Decides name other)) names)
    (Decides-distinct names))

named_at : {X : Type 0} (name_of : X → List ℕ) (xs : List X) (k : ℕ) (x : X) → slice_get xs k ≡ Some x
    → slice_get (map name_of xs) k ≡ Some (name_of x)
named_at name_of xs k x at = slice_get-map name_of xs k ∙ ap (option_map name_of) at

-- no two elements have the same name
abbrev pub DistinctBy : {X : Type 0} → (X → List ℕ) → List X → Type 0
DistinctBy {X} name_of xs = (p q : ℕ) (x y : X) → slice_get xs p ≡ Some x → slice_get xs q ≡ Some y
    → name_of x ≡ name_of y → p ≡ q

names_distinct : {X : Type 0} (name_of : X → List ℕ) (xs : List X) → DistinctBy name_of xs → Distinct (map name_of xs)
names_distinct name_of xs distinct p q name at at' =
    let x = mapped_some name_of (slice_get xs p) name (sym (slice_get-map name_of xs p) ∙ at) in
    let y = mapped_some name_of (slice_get xs q) name (sym (slice_get-map name_of xs q) ∙ at') in
    distinct p q x.0 y.0 x.1 y.1 (x.2 ∙ sym y.2)

pub Decides-distinct_by : {X : Type 0} (name_of : X → List ℕ) (xs : List X)
    → Decides (are_distinct (map name_of xs)) (DistinctBy name_of xs)
Decides-distinct_by name_of xs =
    Decides-like (are_distinct (map name_of xs)) (λ distinct p q x y at at' same. distinct p q (name_of x)
    (named_at name_of xs p x at) (named_at name_of xs q y at' ∙ ap Some (sym same)))
    (names_distinct name_of xs) (Decides-distinct (map name_of xs))
