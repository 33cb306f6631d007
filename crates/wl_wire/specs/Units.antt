-- Fixed-point numbers, given in 256ths.
use Rattle.std.specs.Prelude.{ℕ, ℤ, pos, negsuc, ◌-◌, ◌*◌, ◌/◌, ◌%◌, ◌+ℤ◌, ◌*ℤ◌, ◌≤ℤ◌, ◌<ℤ◌, List}
use Rattle.std.specs.Prelude.{[], ◌∷◌, ◌++◌, length, replicate, nat_abs, decimal}

-- the whole numbers that a fixed-point number can have: -8,388,608 to 8,388,607
abbrev pub HasFixed : ℤ → Type 0
HasFixed z = (negsuc 8388607 ≤ℤ z) × (z ≤ℤ pos 8388607)

-- z is the greatest whole number at or below so many 256ths
abbrev pub IsFloor : ℤ → ℤ → Type 0
IsFloor z units = ((z *ℤ pos 256) ≤ℤ units) × (units <ℤ ((z +ℤ pos 1) *ℤ pos 256))

-- a minus sign if the number is below 0
abbrev pub sign_of : ℤ → List ℕ
sign_of (pos n) = []
sign_of (negsuc n) = 45 ∷ []

-- the number in decimal, padded with zeros on the left to this many digits
abbrev pub decimal_to : ℕ → ℕ → List ℕ
decimal_to width n = replicate (width - length (decimal n)) 48 ++ decimal n

-- The text printed for so many 256ths: sign, whole part, a point, and 8 decimals. A 256th is
-- 0.00390625, which is 390,625 units of the last decimal.
abbrev pub fixed_text : ℤ → List ℕ
fixed_text units =
    sign_of units
    ++ (decimal (nat_abs units / 256) ++ 46 ∷ decimal_to 8 (nat_abs units % 256 * 390625))
