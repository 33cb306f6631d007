-- The numbers that decimal digits spell.
use Rattle.std.proofs.Common.{◌≡◌, ℕ, ◌<◌, ◌≤◌, ◌^◌, true, false, List, [], ◌∷◌, length, refl, arith}
use Rattle.std.specs.Prelude.{Some, ◌&&◌}
use Rattle.std.specs.Char.{digit_value, is_ascii_digit}
use Rattle.std.specs.List.{list_all}
use Rattle.std.specs.Str.Parse.{AllDigits, digits_value}
use Rattle.std.proofs.lemmas.Bool.Decides.{nat_tests}
use Rattle.std.proofs.lemmas.Int.Digits.{digits_value-lt}
use Rattle.std.proofs.Math.Nat.{pow-le-pow_right}
use Rattle.wl_text.specs.Number.{number_of}

digit_is : (c : ℕ) → is_ascii_digit c ≡ true → digit_value c < 10
digit_is c digit = grind (arith, nat_tests)

is_digit : (c : ℕ) → digit_value c < 10 → is_ascii_digit c ≡ true
is_digit c small = grind (arith, nat_tests)

digits_are : (digits : List ℕ) → list_all is_ascii_digit digits ≡ true → AllDigits 10 digits
digits_are [] all = tt
digits_are (c ∷ cs) all = elim (is_ascii_digit c) as
    (λ t. is_ascii_digit c ≡ t → (t && list_all is_ascii_digit cs) ≡ true → AllDigits 10 (c ∷ cs)) [
      | true ↦ λ digit more. (digit_is c digit, digits_are cs more)
      | false ↦ λ digit more. absurd (cc more)
    ] refl all

pub are_digits : (digits : List ℕ) → AllDigits 10 digits → list_all is_ascii_digit digits ≡ true
are_digits [] all = refl
are_digits (c ∷ cs) all = rw (is_digit c all.0, are_digits cs all.1) refl

-- the number that digits spell is their value
pub number_is : (digits : List ℕ) (n : ℕ) → number_of digits ≡ Some n
    → (1 ≤ length digits) × AllDigits 10 digits × (digits_value 10 digits ≡ n)
number_is digits n is = elim (list_all is_ascii_digit digits) as
    (λ t. list_all is_ascii_digit digits ≡ t → (1 ≤ length digits) × AllDigits 10 digits × (digits_value 10 digits ≡ n)) [
      | true ↦ λ all. (grind (arith, nat_tests), digits_are digits all, grind (arith, nat_tests))
      | false ↦ λ other. absurd (grind (arith, nat_tests))
    ] refl

-- 1 to 9 digits spell a number
pub number_some : (digits : List ℕ) → 1 ≤ length digits → length digits ≤ 9 → AllDigits 10 digits
    → number_of digits ≡ Some (digits_value 10 digits)
number_some digits some few all =
    let are = are_digits digits all in
    let small : digits_value 10 digits < 10 ^ 9 =
    omega (arith, digits_value-lt 10 digits all, pow-le-pow_right {n = 10} (omega arith) few) in
    rw are (grind (arith, nat_tests))
