-- The freed ids in a vector, the latest last.
use Rattle.std.proofs.Common.{◌≡◌, ℕ, ◌+◌, ◌<◌, ◌≤◌, List, [], ◌∷◌, ◌++◌, refl, sym, ◌∙◌, ap, cond}
use Rattle.std.proofs.Common.{Bool, true, false, reverse, arith}
use Rattle.std.proofs.lemmas.List.{reverse-append}
use Rattle.std.proofs.lemmas.List.Elements.{filter-append}
use Rattle.std.specs.List.{filter}
use Rattle.std.proofs.lemmas.Grind.{common_steps}
use Rattle.std.proofs.lemmas.Bool.Decides.{nat_tests}
use Rattle.wl_object_map.specs.View.{times, without}

pub times-append : (id : ℕ) (xs ys : List ℕ) → times id (xs ++ ys) ≡ times id xs + times id ys
times-append id [] ys = omega arith
times-append id (x ∷ xs) ys = let h = times-append id xs ys in omega arith

-- reversing a list keeps how often an id occurs
pub times-reverse : (id : ℕ) (xs : List ℕ) → times id (reverse xs) ≡ times id xs
times-reverse id [] = refl
times-reverse id (x ∷ xs) =
    let h = times-reverse id xs in
    ap (times id) (reverse-append (x ∷ []) xs) ∙ times-append id (reverse xs) (x ∷ []) ∙ omega arith

times-last : (id : ℕ) (ys : List ℕ) → 0 < times id (ys ++ id ∷ [])
times-last id [] = grind (arith, common_steps, nat_tests)
times-last id (y ∷ ys) = let h = times-last id ys in omega arith

-- a list without its last id, which occurs only there
pub without-last : (id : ℕ) (ys : List ℕ) → times id (ys ++ id ∷ []) ≤ 1 → without id (ys ++ id ∷ []) ≡ ys
without-last id [] h = grind (arith, common_steps, nat_tests)
without-last id (y ∷ ys) h = let w = without-last id ys in let t = times-last id ys
    in grind (arith, common_steps, nat_tests, w, t, h)

one : (p : ℕ → Bool) (x : ℕ) → reverse (filter p (x ∷ [])) ≡ filter p (x ∷ [])
one p x = elim (p x) as (λ b. reverse (cond b (x ∷ []) []) ≡ cond b (x ∷ []) []) [ true ↦ refl | false ↦ refl ]

-- filtering keeps the order
pub reverse-filter : (p : ℕ → Bool) (xs : List ℕ) → reverse (filter p xs) ≡ filter p (reverse xs)
reverse-filter p [] = refl
reverse-filter p (x ∷ xs) =
    ap reverse (filter-append p (x ∷ []) xs)
    ∙ reverse-append (filter p (x ∷ [])) (filter p xs)
    ∙ ap (λ ys. ys ++ reverse (filter p (x ∷ []))) (reverse-filter p xs)
    ∙ ap (λ ys. filter p (reverse xs) ++ ys) (one p x)
    ∙ sym (filter-append p (reverse xs) (x ∷ []))
    ∙ sym (ap (filter p) (reverse-append (x ∷ []) xs))
