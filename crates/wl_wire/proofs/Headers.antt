-- Headers at the front of bytes.
use Rattle.std.proofs.Common.{◌≡◌, ℕ, ◌+◌, ◌*◌, ◌/◌, ◌%◌, ◌<◌, ◌≤◌, List, [], ◌∷◌, length, take, drop, refl, arith}
use Rattle.std.specs.Prelude.{slice_index}
use Rattle.std.proofs.lemmas.List.Elements.{All-take}
use Rattle.byteorder.specs.Endian.{little_number}
use Rattle.wl_wire.specs.Word.{header_bytes, header_at}
use Rattle.wl_wire.specs.Reading.{number_at}
use Rattle.wl_wire.proofs.Numbers.{Bytewise}
use Rattle.wl_wire.proofs.Canonicals.{header_bytes-at}

-- the header at the front, whatever follows it
pub header_bytes-front : (bytes : List ℕ) → Bytewise bytes → 8 ≤ length bytes
    → header_bytes (header_at bytes) ≡ take 8 bytes
header_bytes-front (a ∷ b ∷ c ∷ d ∷ e ∷ f ∷ g ∷ h ∷ rest) w l =
    header_bytes-at (a ∷ b ∷ c ∷ d ∷ e ∷ f ∷ g ∷ h ∷ [])
    (All-take (λ (b : ℕ). b < 256) 8 (a ∷ b ∷ c ∷ d ∷ e ∷ f ∷ g ∷ h ∷ rest) w) refl
header_bytes-front bytes w l = absurd (omega arith)

-- the three numbers of the header at the front
pub header-read : (bytes : List ℕ) (object size opcode : ℕ) → Bytewise bytes → 8 ≤ length bytes
    → object ≡ little_number 4 bytes → size ≡ little_number 2 (take 2 (drop 6 bytes))
    → opcode ≡ little_number 2 (take 2 (drop 4 bytes))
    → record { object = object; size = size; opcode = opcode } ≡ header_at bytes
header-read (a ∷ b ∷ c ∷ d ∷ e ∷ f ∷ g ∷ h ∷ rest) object size opcode w l o s p =
    let bytes : List ℕ = a ∷ b ∷ c ∷ d ∷ e ∷ f ∷ g ∷ h ∷ rest in
    let wa = w 0 0 (omega (arith, l)) in
    let wb = w 1 0 (omega (arith, l)) in
    let wc = w 2 0 (omega (arith, l)) in
    let wd = w 3 0 (omega (arith, l)) in
    let we = w 4 0 (omega (arith, l)) in
    let wf = w 5 0 (omega (arith, l)) in
    let wg = w 6 0 (omega (arith, l)) in
    let wh = w 7 0 (omega (arith, l)) in
    let first : object ≡ number_at bytes = omega (arith, o, wa, wb, wc, wd) in
    let upper : size ≡ number_at (drop 4 bytes) / 65536 = omega (arith, s, we, wf, wg, wh) in
    let lower : opcode ≡ number_at (drop 4 bytes) % 65536 = omega (arith, p, we, wf, wg, wh) in
    cc
header-read bytes object size opcode w l o s p = absurd (omega (arith, l))

-- the size, from its two bytes
pub header-size : (bytes : List ℕ) (size : ℕ) → Bytewise bytes → 8 ≤ length bytes
    → size ≡ number_at (drop 4 bytes) / 65536
    → size ≡ slice_index bytes 6 + 256 * slice_index bytes 7
header-size (a ∷ b ∷ c ∷ d ∷ e ∷ f ∷ g ∷ h ∷ rest) size w l s =
    let we = w 4 0 (omega (arith, l)) in
    let wf = w 5 0 (omega (arith, l)) in
    let wg = w 6 0 (omega (arith, l)) in
    let wh = w 7 0 (omega (arith, l)) in
    omega (arith, s, we, wf, wg, wh)
header-size bytes size w l s = absurd (omega (arith, l))
