-- The bits of a word after a place.
use Rattle.std.proofs.Common.{◌≡◌, ℕ, ◌+◌, ◌-◌, ◌/◌, ◌^◌, ◌<◌, ◌≤◌, ap, ◌∙◌, inl, inr, arith}
use Rattle.std.specs.Int.{bit_at, bit_not, trailing_zeros, w64}
use Rattle.std.specs.Int.Count.{trailing_of_zero}
use lib.Bits.{bit_and}
use Rattle.std.proofs.Math.Nat.{div-le_self}
use Rattle.std.proofs.lemmas.Bool.{cases_lt}
use Rattle.std.proofs.lemmas.Nat.{and_le_l, trailing_le}
use Rattle.std.proofs.lemmas.Nat.Bits.{bit_at_and, bit_at_not, bit_at_ones, bit_at_ones_above, bit_at-lt}
use Rattle.std.proofs.lemmas.Nat.Bits.{bit_at-trailing_zeros, bit_at-zero, ones_shr}

-- the mask of the bits up to a place
abbrev passed : ℕ → ℕ
passed p = (2 ^ 64 - 1) / 2 ^ (63 - p)

-- the bits of a word after a place
abbrev pub behind : ℕ → ℕ → ℕ
behind word p = bit_and word (bit_not w64 (passed p))

passed-is : (p : ℕ) → p < 64 → passed p ≡ 2 ^ (p + 1) - 1
passed-is p l =
    let e : 64 - (63 - p) ≡ p + 1 = omega (arith, l) in
    ones_shr 64 (63 - p) (omega arith) ∙ ap (λ (n : ℕ). 2 ^ n - 1) e

passed-small : (p : ℕ) → passed p < 2 ^ 64
passed-small p = omega (arith, div-le_self (2 ^ 64 - 1) (2 ^ (63 - p)))

-- the bits after a place stay, those up to it are cleared
stays : (word p k : ℕ) → p < k → k < 64 → bit_at (behind word p) k ≡ 0 → bit_at word k ≡ 0
stays word p k l m h = omega (
  arith,
  bit_at_and word (bit_not w64 (passed p)) k,
  bit_at_not w64 (passed p) k (passed-small p) m,
  ap (λ (n : ℕ). bit_at n k) (passed-is p (omega (arith, l, m))),
  bit_at_ones_above (p + 1) k (omega (arith, l)),
  bit_at-lt word k,
  h,
)

cleared : (word p k : ℕ) → k ≤ p → p < 64 → bit_at (behind word p) k ≡ 0
cleared word p k l m = omega (
  arith,
  bit_at_and word (bit_not w64 (passed p)) k,
  bit_at_not w64 (passed p) k (passed-small p) (omega (arith, l, m)),
  ap (λ (n : ℕ). bit_at n k) (passed-is p m),
  bit_at_ones (p + 1) k (omega (arith, l)),
)

-- the lowest of these bits is after the place; between the two, no bit of the word is set
pub lowest : (word p : ℕ) → word < 2 ^ 64 → p < 64
    → (p < trailing_zeros w64 (behind word p))
    × ((k : ℕ) → p < k → k < trailing_zeros w64 (behind word p) → bit_at word k ≡ 0)
lowest word p f l =
    let low = trailing_zeros w64 (behind word p) in
    let few : low ≤ 64 = trailing_le 64 (behind word p) in
    elim (cases_lt 0 (behind word p)) [
      | inl some ↦ (let found = bit_at-trailing_zeros w64 (behind word p) some
          (omega (arith, and_le_l word (bit_not w64 (passed p)), f)) in (
            elim (cases_lt p low) [
              | inl later ↦ later
              | inr within ↦ absurd (omega (arith, found.1, cleared word p low within l))
            ],
            λ k after before. stays word p k after (omega (arith, before, few)) (found.2 k before),
          ))
      | inr none ↦ (let is : behind word p ≡ 0 = omega (arith, none) in (
        omega (arith, l, ap (trailing_zeros w64) is, trailing_of_zero 64),
        λ k after before. stays word p k after (omega (arith, before, few))
            (ap (λ (n : ℕ). bit_at n k) is ∙ bit_at-zero k),
      ))
    ]
