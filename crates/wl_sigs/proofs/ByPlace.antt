-- Tests of elements with their places.
use Rattle.std.proofs.Common.{◌≡◌, ℕ, zero, suc, ◌+◌, List, [], ◌∷◌, Bool, refl, subst, slice_get, Some, arith}
use Rattle.std.specs.Bool.{Decides}
use Rattle.std.proofs.lemmas.Bool.Decides.{Decides-like, Decides-and}
use Rattle.wl_sigs.specs.Rules.{all_indexed_from}

-- P holds for each element and its place; the first element is at place n
abbrev HoldsFrom : {X : Type 0} → (ℕ → X → Type 0) → ℕ → List X → Type 0
HoldsFrom {X} P n xs = (p k : ℕ) (x : X) → p ≡ n + k → slice_get xs k ≡ Some x → P p x

holds_cons : {X : Type 0} (P : ℕ → X → Type 0) (n : ℕ) (x : X) (xs : List X) → P n x → HoldsFrom P (n + 1) xs
    → HoldsFrom P n (x ∷ xs)
holds_cons P n x xs here rest p zero y e at =
    let same : x ≡ y = cc in
    let place : n ≡ p = omega arith in
    subst (λ z. P p z) same (subst (λ z. P z x) place here)
holds_cons P n x xs here rest p (suc k) y e at = rest p k y (omega arith) at

holds_head : {X : Type 0} (P : ℕ → X → Type 0) (n : ℕ) (x : X) (xs : List X) → HoldsFrom P n (x ∷ xs) → P n x
holds_head P n x xs all = all n 0 x (omega arith) refl

holds_tail : {X : Type 0} (P : ℕ → X → Type 0) (n : ℕ) (x : X) (xs : List X) → HoldsFrom P n (x ∷ xs)
    → HoldsFrom P (n + 1) xs
holds_tail P n x xs all p k y e at = all p (suc k) y (omega arith) at

Decides-from : {X : Type 0} (test : ℕ → X → Bool) (P : ℕ → X → Type 0) → ((n : ℕ) (x : X) → Decides (test n x) (P n x))
    → (n : ℕ) (xs : List X) → Decides (all_indexed_from test n xs) (HoldsFrom P n xs)
Decides-from test P each n [] = (λ _ p k x e at. cc, λ _. refl)
Decides-from test P each n (x ∷ xs) =
    Decides-like (all_indexed_from test n (x ∷ xs)) (λ both. holds_cons P n x xs both.0 both.1)
    (λ all. (holds_head P n x xs all, holds_tail P n x xs all))
    (Decides-and (test n x) (all_indexed_from test (n + 1) xs) (each n x) (Decides-from test P each (n + 1) xs))

pub Decides-by_place : {X : Type 0} (test : ℕ → X → Bool) (P : ℕ → X → Type 0)
    → ((n : ℕ) (x : X) → Decides (test n x) (P n x)) → (xs : List X)
    → Decides (all_indexed_from test 0 xs) ((k : ℕ) (x : X) → slice_get xs k ≡ Some x → P k x)
Decides-by_place test P each xs =
    Decides-like (all_indexed_from test 0 xs) (λ all k x at. all k k x (omega arith) at)
    (λ all p k x e at. subst (λ z. P z x) (let s : k ≡ p = omega arith in s) (all k x at))
    (Decides-from test P each 0 xs)
