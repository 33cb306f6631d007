-- A search for a byte 0 in parts of a text, and in lanes of a vector.
use Rattle.std.proofs.Common.{◌≡◌, ℕ, ◌+◌, ◌*◌, ◌-◌, ◌^◌, not, cond, nat_eq, ltb, ltb-true, ltb-false, w8, map, ◌<◌}
use Rattle.std.proofs.Common.{◌≤◌, List, [], ◌∷◌, Bool, true, false, ◌||◌, length, take, drop, refl, sym, ap, ◌∙◌}
use Rattle.std.proofs.Common.{arith}
use Rattle.std.proofs.lemmas.Bool.Decides.{nat_tests}
use Rattle.std.proofs.lemmas.List.{take-append-drop, drop-drop, length-drop, take_all}
use Rattle.std.proofs.lemmas.List.Folds.{list_any-append}
use Rattle.std.proofs.Math.Seq.{take-add}
use Rattle.std.specs.Prelude.{◌==◌}
use Rattle.std.specs.List.{list_any}
use Rattle.std.proofs.lemmas.Simd.{tops_compared, length-sel_l, length-zip2}
use Rattle.std.proofs.lemmas.Bool.{or_right, or_left, or_parts}
use lib.Lanes.{zip2, mask_l, sel_l, top}
use Rattle.wl_wire.specs.Spelling.{has_nul}

or_false_left : (a b : Bool) → a ≡ false → (a || b) ≡ b
or_false_left true b e = absurd (cc)
or_false_left false b e = refl

nul_split : (n : ℕ) (xs : List ℕ) → has_nul xs ≡ (has_nul (take n xs) || has_nul (drop n xs))
nul_split n xs = ap has_nul (sym (take-append-drop n xs)) ∙ list_any-append (λ b. b == 0) (take n xs) (drop n xs)

-- a byte 0 in a part is one in the whole text
pub nul_found : (text : List ℕ) (at n : ℕ) → has_nul (take n (drop at text)) ≡ true → has_nul text ≡ true
nul_found text at n e =
    nul_split at text ∙ or_right (has_nul (take at text)) (has_nul (drop at text))
    (nul_split n (drop at text) ∙ or_left (has_nul (take n (drop at text)))
    (has_nul (drop n (drop at text))) e)

-- no byte is 0 before `at`, nor in the next n bytes
pub nul_next : (text : List ℕ) (at n : ℕ) → has_nul (take at text) ≡ false → has_nul (take n (drop at text)) ≡ false
    → has_nul (take (at + n) text) ≡ false
nul_next text at n before here =
    ap has_nul (take-add at n text) ∙ list_any-append (λ b. b == 0) (take at text) (take n (drop at text))
    ∙ or_false_left (has_nul (take at text)) (has_nul (take n (drop at text))) before ∙ here

-- no byte is 0 before `at`, and the last n bytes begin at or before it
pub nul_last : (text : List ℕ) (at last n : ℕ) → last ≤ at → last + n ≡ length text → has_nul (take at text) ≡ false
    → has_nul (take n (drop last text)) ≡ has_nul text
nul_last text at last n low size before =
    let sum : last + (at - last) ≡ at = omega arith in
    let front : has_nul (take last text) ≡ false =
    (or_parts (has_nul (take last text)) (has_nul (take (at - last) (drop last text))) (
    sym (list_any-append (λ b. b == 0) (take last text) (take (at - last) (drop last text)))
    ∙ ap has_nul (sym (take-add last (at - last) text)) ∙ ap (λ m. has_nul (take m text)) sum ∙ before
    )).0 in
    ap has_nul (take_all n (drop last text) (omega (arith, length-drop last text)))
    ∙ sym (nul_split last text ∙ or_false_left (has_nul (take last text)) (has_nul (drop last text)) front)

-- a part split into two halves
pub nul_halves : (text : List ℕ) (at n : ℕ) → has_nul (take (n + n) (drop at text))
    ≡ (has_nul (take n (drop at text)) || has_nul (take n (drop (at + n) text)))
nul_halves text at n =
    ap has_nul (take-add n n (drop at text)) ∙ list_any-append (λ b. b == 0) (take n (drop at text))
    (take n (drop n (drop at text)))
    ∙ ap (λ l. has_nul (take n (drop at text)) || has_nul (take n l)) (drop-drop n at text)

least_zero : (x y : ℕ) (b : Bool) → ltb x y ≡ b → (cond b x y == 0) ≡ (x == 0 || y == 0)
least_zero x y true e = let under : x < y = ltb-true x y e in grind (arith, nat_tests)
least_zero x y false e = let over : y ≤ x = ltb-false x y e in grind (arith, nat_tests)

or_turn : (a b c d : Bool) → ((a || b) || (c || d)) ≡ ((a || c) || (b || d))
or_turn true b c d = refl
or_turn false true true d = refl
or_turn false true false d = refl
or_turn false false c d = refl

-- the lesser of two lanes, for each lane
least : (xs ys : List ℕ) → length xs ≡ length ys → has_nul (sel_l (zip2 ltb xs ys) xs ys) ≡ (has_nul xs || has_nul ys)
least [] [] e = refl
least [] (y ∷ ys) e = absurd (omega arith)
least (x ∷ xs) [] e = absurd (omega arith)
least (x ∷ xs) (y ∷ ys) e =
    let more : has_nul (sel_l (zip2 ltb xs ys) xs ys) ≡ (has_nul xs || has_nul ys) = least xs ys (omega arith) in
    ap (λ b. b || has_nul (sel_l (zip2 ltb xs ys) xs ys)) (least_zero x y (ltb x y) refl)
    ∙ ap (λ b. (x == 0 || y == 0) || b) more ∙ or_turn (x == 0) (y == 0) (has_nul xs) (has_nul ys)

-- what `simd_min` computes for two adjacent parts of n bytes each
pub nul_least : (text xs ys : List ℕ) (at n : ℕ) → length xs ≡ 64 → length ys ≡ 64
    → has_nul xs ≡ has_nul (take n (drop at text)) → has_nul ys ≡ has_nul (take n (drop (at + n) text))
    → has_nul (sel_l (map (top 7) (zip2 (λ a b. cond (ltb a b) (2 ^ 8 - 1) 0) xs ys)) xs ys)
    ≡ has_nul (take (n + n) (drop at text))
nul_least text xs ys at n x y p q =
    ap (λ ms. has_nul (sel_l ms xs ys)) (tops_compared w8 ltb xs ys)
    ∙ least xs ys (x ∙ sym y)
    ∙ ap (λ b. b || has_nul ys) p ∙ ap (λ b. has_nul (take n (drop at text)) || b) q
    ∙ sym (nul_halves text at n)

pub least_len : (xs ys : List ℕ) → length xs ≡ 64 → length ys ≡ 64
    → length (sel_l (map (top 7) (zip2 (λ a b. cond (ltb a b) (2 ^ 8 - 1) 0) xs ys)) xs ys) ≡ 64
least_len xs ys x y =
    let size : length (zip2 ltb xs ys) ≡ length xs = length-zip2 ltb xs ys (x ∙ sym y) in
    ap (λ ms. length (sel_l ms xs ys)) (tops_compared w8 ltb xs ys)
    ∙ length-sel_l (zip2 ltb xs ys) xs ys size (size ∙ x ∙ sym y) ∙ size ∙ x

bit_any : (b : Bool) (m : ℕ) (some : Bool) → not (nat_eq m 0) ≡ some → not (nat_eq (cond b 1 0 + 2 * m) 0) ≡ (b || some)
bit_any true m some e = grind (arith, nat_tests)
bit_any false m true e = grind (arith, nat_tests)
bit_any false m false e = grind (arith, nat_tests)

-- the mask is not 0 if one of the lanes passes
pub mask_any : (p : ℕ → Bool) (xs : List ℕ) → not (nat_eq (mask_l (map p xs)) 0) ≡ list_any p xs
mask_any p [] = refl
mask_any p (x ∷ xs) = bit_any (p x) (mask_l (map p xs)) (list_any p xs) (mask_any p xs)
