-- The bits of words, as a list.
use Rattle.std.proofs.Common.{◌≡◌, ◌≢◌, ℕ, zero, suc, ◌+◌, ◌*◌, ◌/◌, ◌%◌, ◌^◌, ◌<◌, ◌≤◌, ◌==◌}
use Rattle.std.proofs.Common.{eqb, Bool, true, false, List, ◌∷◌, length, get_or, Some}
use Rattle.std.proofs.Common.{Option, slice_get, slice_set, unwrap_or, refl}
use Rattle.std.proofs.Common.{sym, ap, ◌∙◌, arith}
use Rattle.std.proofs.lemmas.List.{get_or-set_same, get_or-set_other}
use Rattle.std.specs.Int.{bit_at, w64}
use Rattle.std.specs.Int.RustNames.{bit_or}
use lib.Bits.{bit_and}
use Rattle.std.proofs.lemmas.Bool.{eqb-true, eqb-false}
use Rattle.std.proofs.lemmas.Nat.Bits.{bit_at_set_same, bit_at_set_other, shr_and_one}
use Rattle.wl_server.specs.Bits.{bits, has_bit}

-- the bit at a place
pub bits_get : (n p k : ℕ) (ws : List ℕ) → k < n → slice_get (bits n p ws) k ≡ Some (has_bit ws (p + k))
bits_get zero p k ws h = absurd (omega arith)
bits_get (suc n) p zero ws h = let e : p ≡ p + 0 = omega arith in ap (λ (q : ℕ). Some (has_bit ws q)) e
bits_get (suc n) p (suc k) ws h =
    let e : suc p + k ≡ p + suc k = omega arith in
    bits_get n (suc p) k ws (omega arith) ∙ ap (λ (q : ℕ). Some (has_bit ws q)) e

-- words that agree from a place on have the same bits there
pub bits_same : (n p : ℕ) (ws vs : List ℕ) → ((q : ℕ) → p ≤ q → has_bit ws q ≡ has_bit vs q) → bits n p ws ≡ bits n p vs
bits_same zero p ws vs h = refl
bits_same (suc n) p ws vs h = λ i. h p (omega arith) i ∷ bits_same n (suc p) ws vs (λ q le. h q (omega arith)) i

-- the list after one bit was set
pub bits_set : (n p k : ℕ) (ws vs : List ℕ) → k < n → has_bit vs (p + k) ≡ true
    → ((q : ℕ) → q ≢ p + k → has_bit vs q ≡ has_bit ws q) → bits n p vs ≡ slice_set (bits n p ws) k true
bits_set zero p k ws vs h is others = absurd (omega arith)
bits_set (suc n) p zero ws vs h is others =
    let e : p ≡ p + 0 = omega arith in
    let first : has_bit vs p ≡ true = ap (has_bit vs) e ∙ is in
    let rest : bits n (suc p) vs ≡ bits n (suc p) ws =
    bits_same n (suc p) vs ws (λ q le. others q (λ same. absurd (omega (arith, same, le)))) in
    λ i. first i ∷ rest i
bits_set (suc n) p (suc k) ws vs h is others =
    let e : suc p + k ≡ p + suc k = omega arith in
    let first : has_bit vs p ≡ has_bit ws p = others p (λ same. absurd (omega (arith, same))) in
    let rest = bits_set n (suc p) k ws vs (omega arith) (ap (has_bit vs) e ∙ is)
    (λ q ne. others q (λ same. ne (same ∙ sym e))) in
    λ i. first i ∷ rest i

-- ---- a bit of a word

-- the word with a bit set
abbrev set_word : List ℕ → ℕ → ℕ
set_word ws place = bit_or (get_or ws (place / 64) 0) (1 * 2 ^ (place % 64) % 2 ^ 64)

abbrev set_in : List ℕ → ℕ → List ℕ
set_in ws place = slice_set ws (place / 64) (set_word ws place)

set_here : (ws : List ℕ) (place : ℕ) → place / 64 < length ws → has_bit (set_in ws place) place ≡ true
set_here ws place h =
    ap (λ (w : ℕ). bit_at w (place % 64) == 1) (get_or-set_same ws (place / 64) (set_word ws place) 0 h)
    ∙ ap (λ (b : ℕ). b == 1) (bit_at_set_same w64 (get_or ws (place / 64) 0) (place % 64) (omega arith))

set_other : (ws : List ℕ) (place q : ℕ) (b : Bool) → eqb (q / 64) (place / 64) ≡ b → place / 64 < length ws → q ≢ place
    → has_bit (set_in ws place) q ≡ has_bit ws q
set_other ws place q true e h ne =
    let same : q / 64 ≡ place / 64 = eqb-true (q / 64) (place / 64) e in
    ap (λ (j : ℕ). bit_at (get_or (set_in ws place) j 0) (q % 64) == 1) same
    ∙ ap (λ (w : ℕ). bit_at w (q % 64) == 1) (get_or-set_same ws (place / 64) (set_word ws place) 0 h)
    ∙ ap (λ (b : ℕ). b == 1) (bit_at_set_other w64 (get_or ws (place / 64) 0) (place % 64) (omega arith) (q % 64)
    (λ left. ne (omega (arith, same, left))))
    ∙ ap (λ (j : ℕ). bit_at (get_or ws j 0) (q % 64) == 1) (sym same)
set_other ws place q false e h ne =
    ap (λ (w : ℕ). bit_at w (q % 64) == 1) (get_or-set_other ws (place / 64) (q / 64) (set_word ws place) 0
    (eqb-false (q / 64) (place / 64) e))

pub read_bit : (ws : List ℕ) (p : ℕ) → p < 4096 → ((bit_and (get_or ws (p / 64) 0 / 2 ^ (p % 64)) 1) == 1)
    ≡ unwrap_or (slice_get (bits 4096 0 ws) p) false
read_bit ws p h =
    let e : 0 + p ≡ p = omega arith in
    ap (λ (b : ℕ). b == 1) (shr_and_one (get_or ws (p / 64) 0) (p % 64))
    ∙ sym (ap (λ (o : Option Bool). unwrap_or o false) (bits_get 4096 0 p ws h) ∙ ap (has_bit ws) e)

pub reads_set : (ws : List ℕ) (p : ℕ) → p < 4096 → length ws ≡ 64
    → unwrap_or (slice_get (bits 4096 0 (set_in ws p)) p) false ≡ true
reads_set ws p h l =
    let e : 0 + p ≡ p = omega arith in
    ap (λ (o : Option Bool). unwrap_or o false) (bits_get 4096 0 p (set_in ws p) h)
    ∙ ap (has_bit (set_in ws p)) e ∙ set_here ws p (omega (arith, h, l))

pub bit_is_set : (ws : List ℕ) (p : ℕ) → p < 4096 → length ws ≡ 64
    → bits 4096 0 (set_in ws p) ≡ slice_set (bits 4096 0 ws) p true
bit_is_set ws p h l =
    let e : 0 + p ≡ p = omega arith in
    let there : p / 64 < length ws = omega (arith, h, l) in
    bits_set 4096 0 p ws (set_in ws p) h (ap (has_bit (set_in ws p)) e ∙ set_here ws p there)
    (λ q ne. set_other ws p q (eqb (q / 64) (p / 64)) refl there (λ same. ne (same ∙ sym e)))
