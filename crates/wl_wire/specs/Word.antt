-- Words: a 32-bit number as four bytes on the wire.
use Rattle.std.specs.Prelude.{nat_lt, if◌then◌else◌, slice_index, drop, ℕ, ◌/◌, ◌%◌, ◌+◌, ◌-◌, ◌*◌}
use Rattle.std.specs.Prelude.{◌^◌, ◌<◌, List, [], ◌∷◌, ◌++◌, ℤ, pos, negsuc}
use Rattle.wl_wire.specs.declared.header.Header.{Header}

-- the word of a number below 2 ^ 32: four bytes, lowest first
abbrev pub word : ℕ → List ℕ
word n = n % 256 ∷ n / 256 % 256 ∷ n / 65536 % 256 ∷ n / 16777216 % 256 ∷ []

-- a signed number in 32-bit two's complement: -1 is 2 ^ 32 - 1
abbrev pub complement : ℤ → ℕ
complement (pos n) = n
complement (negsuc n) = 2 ^ 32 - 1 - n

-- the word of a signed number
abbrev pub int_word : ℤ → List ℕ
int_word z = word (complement z)

-- the number in the first four bytes, lowest byte first
abbrev pub number_at : List ℕ → ℕ
number_at bytes =
    slice_index bytes 0 % 256 + slice_index bytes 1 % 256 * 256 + slice_index bytes 2 % 256 * 65536
    + slice_index bytes 3 % 256 * 16777216

-- the signed number that this is in 32-bit two's complement
abbrev pub signed : ℕ → ℤ
signed n = if nat_lt n (2 ^ 31) then pos n else negsuc (2 ^ 32 - 1 - n)

-- a header: the object's word, then a word with the size in its upper half and the opcode in its
-- lower
abbrev pub header_bytes : Header → List ℕ
header_bytes h = word h.object ++ word (h.size * 65536 + h.opcode)

-- a header's numbers are in range
pub record IsHeader (h : Header) : Type 0 where
  pub object : h.object < 2 ^ 32
  pub size : h.size < 65536
  pub opcode : h.opcode < 65536

-- the header in the first eight bytes
abbrev pub header_at : List ℕ → Header
header_at bytes = record {
  object = number_at bytes;
  size = number_at (drop 4 bytes) / 65536;
  opcode = number_at (drop 4 bytes) % 65536;
}
