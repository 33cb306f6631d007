-- Words and their numbers.
use Rattle.std.proofs.Common.{◌≡◌, ℕ, ◌+◌, ◌-◌, ◌*◌, ◌/◌, ◌%◌, ◌^◌, ◌<◌, ◌≤◌, List, [], ◌∷◌, ◌++◌}
use Rattle.std.proofs.Common.{length, take, drop, refl, sym, ap, subst, ◌∙◌, arith, get_or, Fits, w8}
use Rattle.std.specs.Prelude.{FitsSigned, ℤ, pos, negsuc, nat_lt}
use Rattle.std.specs.List.{All}
use Rattle.std.specs.Int.{w32}
use Rattle.std.proofs.lemmas.Bool.{lt-ltb, le-ltb, ltb-true, ltb-false, cond_both}
use Rattle.std.proofs.lemmas.List.{take-append-drop, get_or_default, get_or-drop}
use Rattle.byteorder.specs.Endian.{little_number}
use Rattle.wl_wire.specs.Word.{word, int_word, complement}
use Rattle.wl_wire.specs.Reading.{number_at, signed}

-- a list of bytes
abbrev pub Bytewise : List ℕ → Type 0
Bytewise bytes = All (λ b. b < 256) bytes

-- each element of a slice of u8 is a byte
pub bytewise_from : (bytes : List ℕ) → ((i : ℕ) → Fits w8 (get_or bytes i 0)) → Bytewise bytes
bytewise_from bytes f k d h = let e : get_or bytes k d ≡ get_or bytes k 0 = get_or_default bytes k d 0 h in let g = f k
    in omega (arith, g, e)

-- so is each element of what is behind the first n
pub bytes_behind : (n : ℕ) (bytes : List ℕ) → ((i : ℕ) → Fits w8 (get_or bytes i 0))
    → (i : ℕ) → Fits w8 (get_or (drop n bytes) i 0)
bytes_behind n bytes f i = subst (Fits w8) (sym (get_or-drop n bytes i 0)) (f (n + i))

-- `LittleEndian` reads the number in the first four bytes
pub number-read : (bytes : List ℕ) → ((i : ℕ) → Fits w8 (get_or bytes i 0)) → little_number 4 bytes ≡ number_at bytes
number-read bytes f = let a = f 0 in let b = f 1 in let c = f 2 in let d = f 3 in omega (arith, a, b, c, d)

pub number_at_fits : (bytes : List ℕ) → number_at bytes < 2 ^ 32
number_at_fits bytes = omega arith

pub number_at-word : (n : ℕ) (rest : List ℕ) → n < 2 ^ 32 → number_at (word n ++ rest) ≡ n
number_at-word n rest f = omega arith

four_bytes : (a b c d : ℕ) → a < 256 → b < 256 → c < 256 → d < 256
    → a ∷ b ∷ c ∷ d ∷ [] ≡ word (a % 256 + b % 256 * 256 + c % 256 * 65536 + d % 256 * 16777216)
four_bytes a b c d fa fb fc fd =
    let n : ℕ = a % 256 + b % 256 * 256 + c % 256 * 65536 + d % 256 * 16777216 in
    let ea : a ≡ n % 256 = omega arith in
    let eb : b ≡ n / 256 % 256 = omega arith in
    let ec : c ≡ n / 65536 % 256 = omega arith in
    let ed : d ≡ n / 16777216 % 256 = omega arith in
    cc

pub word-number_at : (bytes : List ℕ) → 4 ≤ length bytes → Bytewise bytes → take 4 bytes ≡ word (number_at bytes)
word-number_at (a ∷ b ∷ c ∷ d ∷ rest) h f = four_bytes a b c d (f 0 0 (omega arith)) (f 1 0 (omega arith))
    (f 2 0 (omega arith)) (f 3 0 (omega arith))
word-number_at (a ∷ b ∷ c ∷ []) h f = absurd (omega arith)
word-number_at (a ∷ b ∷ []) h f = absurd (omega arith)
word-number_at (a ∷ []) h f = absurd (omega arith)
word-number_at [] h f = absurd (omega arith)

-- if the first four bytes are the word of a number, that number is read from them
pub number-from_word : (n : ℕ) (bytes : List ℕ) → n < 2 ^ 32 → take 4 bytes ≡ word n → number_at bytes ≡ n
number-from_word n bytes f e = ap number_at (sym (take-append-drop 4 bytes) ∙ ap (λ (l : List ℕ). l ++ drop 4 bytes) e)
    ∙ number_at-word n (drop 4 bytes) f

-- signed numbers

pub complement_fits : (z : ℤ) → FitsSigned w32 z → complement z < 2 ^ 32
complement_fits (pos n) f = omega arith
complement_fits (negsuc n) f = omega arith

pub signed-complement : (z : ℤ) → FitsSigned w32 z → signed (complement z) ≡ z
signed-complement (pos n) f = rw (lt-ltb n (2 ^ 31) (omega arith)) refl
signed-complement (negsuc n) f =
    let back : 2 ^ 32 - 1 - (2 ^ 32 - 1 - n) ≡ n = omega arith in
    rw (le-ltb (2 ^ 32 - 1 - n) (2 ^ 31) (omega arith)) (ap negsuc back)

pub complement-signed : (n : ℕ) → n < 2 ^ 32 → complement (signed n) ≡ n
complement-signed n f = cond_both (nat_lt n (2 ^ 31)) (pos n) (negsuc (2 ^ 32 - 1 - n)) (λ z. complement z ≡ n)
    (λ e. refl) (λ e. omega arith)

pub signed_fits : (n : ℕ) → n < 2 ^ 32 → FitsSigned w32 (signed n)
signed_fits n f = cond_both (nat_lt n (2 ^ 31)) (pos n) (negsuc (2 ^ 32 - 1 - n)) (λ z. FitsSigned w32 z)
    (λ e. let h = ltb-true n (2 ^ 31) e in omega arith) (λ e. let h = ltb-false n (2 ^ 31) e in omega arith)

pub int_word-signed : (bytes : List ℕ) → 4 ≤ length bytes → Bytewise bytes
    → take 4 bytes ≡ int_word (signed (number_at bytes))
int_word-signed bytes h f = word-number_at bytes h f
    ∙ ap word (sym (complement-signed (number_at bytes) (number_at_fits bytes)))
