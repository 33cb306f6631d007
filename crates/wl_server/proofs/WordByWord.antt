-- Sets of names, 64 names at a time.
use Rattle.std.proofs.Common.{◌≡◌, ◌≢◌, ℕ, zero, suc, ◌+◌, ◌-◌, ◌*◌, ◌/◌, ◌%◌, ◌^◌, ◌<◌, ◌≤◌, ◌==◌, Bool, true, false}
use Rattle.std.proofs.Common.{List, length, get_or, refl, sym, ap, ◌∙◌, arith}
use Rattle.std.specs.Prelude.{not, ◌&&◌, max, min, replicate, slice_get, unwrap_or, Option}
use Rattle.std.specs.Int.{bit_at, bit_not, w64}
use lib.Bits.{bit_and}
use Rattle.std.proofs.lemmas.Bool.{eqb-true, eqb-false}
use Rattle.std.proofs.lemmas.Nat.Bits.{bit_at_and, bit_at_not, bit_at-lt}
use Rattle.wl_server.specs.Bits.{bits}
use Rattle.wl_server.specs.State.{Global, Registry, has_name}
use Rattle.wl_server.specs.Announcing.{owes_removal, owes_telling}
use Rattle.wl_server.specs.Words.{AreWithdrawn, OwesNoRemoval, OwesNoTelling}
use Rattle.wl_server.proofs.Words.{bits_get}

pub word-name : (ws : List ℕ) (word k : ℕ) → word < 64 → k < 64
    → (bit_at (get_or ws word 0) k == 1) ≡ has_name (bits 4096 0 ws) (64 * word + k + 1)
word-name ws word k h l =
    let place = 64 * word + k in
    let at : 64 * word + k + 1 - 1 ≡ place = omega arith in
    let there : (0 + place) / 64 ≡ word = omega (arith, l) in
    let bit : (0 + place) % 64 ≡ k = omega (arith, l) in
    sym (ap (λ (n : ℕ). unwrap_or (slice_get (bits 4096 0 ws) n) false) at
    ∙ ap (λ (o : Option Bool). unwrap_or o false) (bits_get 4096 0 place ws (omega (arith, h, l)))
    ∙ (λ i. bit_at (get_or ws (there i) 0) (bit i) == 1))

-- a test of three bits, from arithmetic to Booleans
none-of : (x y z : ℕ) → min (min x y) (1 - z) ≡ 0 → z < 2 → (((x == 1) && (y == 1)) && not (z == 1)) ≡ false
none-of x y z h l = by_test (x == 1) (y == 1) (z == 1) refl refl refl
  where
    by_test : (a b c : Bool) → (x == 1) ≡ a → (y == 1) ≡ b → (z == 1) ≡ c → ((a && b) && not c) ≡ false
    by_test true true false d e f =
        absurd (omega (arith, h, l, eqb-true x 1 d, eqb-true y 1 e, ends z l (eqb-false z 1 f)))
      where
        ends : (n : ℕ) → n < 2 → n ≢ 1 → n ≡ 0
        ends zero m ne = refl
        ends (suc zero) m ne = absurd (ne refl)
        ends (suc (suc n)) m ne = absurd (omega (arith, m))
    by_test true true true d e f = refl
    by_test true false c d e f = refl
    by_test false b c d e f = refl

pub no-removal : (t w d k : ℕ) → d < 2 ^ 64 → k < 64 → bit_at (bit_and (bit_and t w) (bit_not w64 d)) k ≡ 0
    → (((bit_at t k == 1) && (bit_at w k == 1)) && not (bit_at d k == 1)) ≡ false
no-removal t w d k small l none =
    none-of (bit_at t k) (bit_at w k) (bit_at d k)
    (omega (
      arith,
      bit_at_and (bit_and t w) (bit_not w64 d) k,
      bit_at_and t w k,
      bit_at_not w64 d k small l,
      none,
    )) (bit_at-lt d k)

either-of : (x y : ℕ) → max x y ≡ 1 → x < 2 → y < 2 → (not (y == 1) && not (x == 1)) ≡ false
either-of x y h l m = by_test (x == 1) (y == 1) refl refl
  where
    by_test : (a b : Bool) → (x == 1) ≡ a → (y == 1) ≡ b → (not b && not a) ≡ false
    by_test false false d e = absurd (both x y h (eqb-false x 1 d) (eqb-false y 1 e))
      where
        both : (n p : ℕ) → max n p ≡ 1 → n ≢ 1 → p ≢ 1 → ⊥
        both zero zero k ne nor = omega (arith, k)
        both zero (suc p) k ne nor = nor (omega (arith, k))
        both (suc n) zero k ne nor = ne (omega (arith, k))
        both (suc zero) (suc p) k ne nor = ne refl
        both (suc (suc n)) (suc p) k ne nor = omega (arith, k)
    by_test true true d e = refl
    by_test true false d e = refl
    by_test false true d e = refl

pub no-telling : (t w k : ℕ) → t < 2 ^ 64 → w < 2 ^ 64 → k < 64
    → bit_at (bit_and (bit_not w64 t) (bit_not w64 w)) k ≡ 0
    → (not (bit_at w k == 1) && not (bit_at t k == 1)) ≡ false
no-telling t w k small also l none =
    either-of (bit_at t k) (bit_at w k)
    (omega (
      arith,
      bit_at_and (bit_not w64 t) (bit_not w64 w) k,
      bit_at_not w64 t k small l,
      bit_at_not w64 w k also l,
      bit_at-lt t k,
      bit_at-lt w k,
      none,
    )) (bit_at-lt t k) (bit_at-lt w k)

pub unmarked : (n k : ℕ) → unwrap_or (slice_get (replicate n false) k) false ≡ false
unmarked zero k = refl
unmarked (suc n) zero = refl
unmarked (suc n) (suc k) = unmarked n k

-- ---- what a registry is owed

-- no removal is owed for the globals between two places
pub removal-none : (r : Registry) (globals : List Global) (withdrawn : List Bool) (place next : ℕ)
    → AreWithdrawn globals withdrawn → OwesNoRemoval r withdrawn place next → (k : ℕ) (x : Global) → place + 1 ≤ k
    → k < next → k < length globals → x ≡ get_or globals k x → owes_removal r (k + 1) x ≡ false
removal-none r globals withdrawn place next are none k x least less there e =
    ap (λ (b : Bool). (has_name r.told (k + 1) && b) && not (has_name r.removed (k + 1))) (sym (are k x there e))
    ∙ none k (omega (arith, least)) less

twice-not : (b : Bool) → not (not b) ≡ b
twice-not true = refl
twice-not false = refl

-- nor is their announcement owed
pub telling-none : (r : Registry) (globals : List Global) (withdrawn : List Bool) (place next : ℕ)
    → AreWithdrawn globals withdrawn → OwesNoTelling r withdrawn place next → (k : ℕ) (x : Global) → place + 1 ≤ k
    → k < next → k < length globals → x ≡ get_or globals k x → owes_telling r (k + 1) x ≡ false
telling-none r globals withdrawn place next are none k x least less there e =
    let present : x.present ≡ not (has_name withdrawn (k + 1)) =
    sym (twice-not x.present) ∙ ap not (sym (are k x there e)) in
    ap (λ (b : Bool). b && not (has_name r.told (k + 1))) present ∙ none k (omega (arith, least)) less
