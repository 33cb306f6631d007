-- Fixed-point numbers as they are printed.
use Rattle.std.proofs.Common.{◌≡◌, ℕ, ◌-◌, ◌*◌, ◌/◌, ◌%◌, ◌^◌, List, [], ◌∷◌, ◌++◌, length, refl}
use Rattle.std.proofs.Common.{ap, arith, append-nil, true, false, ℤ, pos}
use Rattle.std.specs.Prelude.{decimal, negsuc, nat_abs, int_lt}
use Rattle.std.proofs.lemmas.Bool.{ltb-true, true≢false}
use Rattle.std.specs.Fmt.{padded_integral, char_count, format_spec, styled_decimal}
use Rattle.wl_wire.specs.Units.{decimal_to, fixed_text, sign_of}

padded_to_eight : (n : ℕ) → padded_integral (format_spec 32 0 4 8 (2 ^ 64 - 1)) false [] (decimal n) ≡ decimal_to 8 n
unfolding padded_integral char_count
padded_to_eight n =
    let zeros : 8 - length (decimal n) - 0 - 0 ≡ 8 - length (decimal n) = omega arith in
    rw (zeros, append-nil (decimal n)) refl

pub sign_below : (z : ℤ) → int_lt z (pos 0) ≡ true → 45 ∷ [] ≡ sign_of z
sign_below (pos n) e = absurd (let h = ltb-true n 0 e in omega arith)
sign_below (negsuc n) e = refl

pub sign_above : (z : ℤ) → int_lt z (pos 0) ≡ false → [] ≡ sign_of z
sign_above (pos n) e = refl
sign_above (negsuc n) e = absurd (true≢false e)

pub text_shown : (z : ℤ) (sign : List ℕ) (size : ℕ) → sign ≡ sign_of z → size ≡ nat_abs z
    → sign ++ (decimal (size / 256) ++ 46 ∷ styled_decimal (format_spec 32 0 4 8 (2 ^ 64 - 1)) (size % 256 * 390625))
    ≡ fixed_text z
text_shown z sign size s e = rw (s, e) (ap (λ (l : List ℕ). sign_of z ++ (decimal (nat_abs z / 256) ++ 46 ∷ l))
    (padded_to_eight (nat_abs z % 256 * 390625)))
