-- The bits of words of 64.
use Rattle.std.specs.Prelude.{ℕ, zero, suc, ◌/◌, ◌%◌, ◌==◌, Bool, List, [], ◌∷◌, slice_index_or}
use Rattle.std.specs.Int.{bit_at}

-- the bit at a place, counted from the lowest bit of the first word
abbrev pub has_bit : List ℕ → ℕ → Bool
has_bit words place = bit_at (slice_index_or words (place / 64) 0) (place % 64) == 1

-- this many of the bits from a place on
abbrev pub bits : ℕ → ℕ → List ℕ → List Bool
bits zero place words = []
bits (suc count) place words = has_bit words place ∷ bits count (suc place) words
