use Rattle.std.proofs.Common.{◌≡◌, ℕ, ◌+◌, ◌-◌, ◌*◌, ◌<◌, ◌^◌, true, List, length, get_or, take, arith}
use Rattle.std.specs.Char.{digit_value, is_ascii_digit}
use Rattle.std.specs.List.{list_all}
use Rattle.std.specs.Str.Parse.{AllDigits, digits_value}
use Rattle.std.proofs.lemmas.Bool.Decides.{nat_tests}
use Rattle.std.proofs.lemmas.Int.Digits.{digits_more, digits_value_more, digits_value-lt}
use Rattle.std.proofs.lemmas.List.{length-take}
use Rattle.std.proofs.Common.{refl}
use Rattle.std.proofs.lemmas.List.Folds.{list_all_more}
use Rattle.wl_text.proofs.number.decimal_value.Goals as goal

-- one more digit
step : (digits : List ℕ) (i value last : ℕ) → i < length digits → is_ascii_digit (get_or digits i 0) ≡ true
    → last ≡ get_or digits i 0 - 48
    → AllDigits 10 (take i digits) → digits_value 10 (take i digits) ≡ value
    → AllDigits 10 (take (i + 1) digits) × (digits_value 10 (take (i + 1) digits) ≡ value * 10 + last)
    × (value * 10 + last < 10 ^ (i + 1))
step digits i value last lt is_digit last_is all so_far =
    let digit : digit_value (get_or digits i 0) ≡ last = grind (arith, nat_tests) in
    let small : last < 10 = grind (arith, nat_tests) in
    let more = digits_more 10 digits i lt all (omega (arith, digit, small)) in
    let sum = digits_value_more 10 digits i lt in
    let below = digits_value-lt 10 (take (i + 1) digits) more in
    let len : length (take (i + 1) digits) ≡ i + 1 = omega (arith, length-take (i + 1) digits) in
    let is : digits_value 10 (take (i + 1) digits) ≡ value * 10 + last = omega (arith, sum, so_far, digit) in
    (more, is, rw (← is) (rw len at below))

pub loop-digit-preserved : goal.loop-digit-preserved
loop-digit-preserved c =
    let s = step _ _ _ _ c.loop-digit-test.true (grind arith) c.from.ensures c.loop-digit.invariant.0
    c.loop-digit.invariant.1 in
    let more = list_all_more is_ascii_digit c.args.digits.now c.loop-digit.digit-index 0 c.loop-digit-test.true in
    let is : is_ascii_digit (get_or c.args.digits.now c.loop-digit.digit-index 0) ≡ true = grind arith in
    let so_far : list_all is_ascii_digit (take c.loop-digit.digit-index c.args.digits.now) ≡ true =
    c.loop-digit.invariant.3 in
    (s.0, s.1, s.2, rw (more, so_far, is) refl)
