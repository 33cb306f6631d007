-- Reserving room for a piece, and writing its bytes later.
use Rattle.std.proofs.Common.{◌≡◌, ℕ, ◌-◌, ◌<◌, List, [], ◌∷◌, ◌++◌, length, refl, sym, ap, ◌∙◌}
use Rattle.std.proofs.Common.{inl, inr, append_assoc, arith, replicate, take}
use Rattle.std.proofs.lemmas.Bool.{cases_lt, ne_eqb, lt-ltb, le-ltb}
use Rattle.std.proofs.lemmas.List.{take-append-le, take_all, get_or-replicate, get_or_past, length-replicate}
use Rattle.hex.specs.Hex.{IsBytes}
use Rattle.wl_recording.specs.declared.piece.Direction.{Direction}
use Rattle.wl_recording.specs.Piece.{Piece, passed, last_len, with_last_bytes}

pub zeros_small : (n : ℕ) → IsBytes (replicate n 0)
zeros_small n k = elim (cases_lt k n) [
  | inl lt ↦ rw (get_or-replicate {A = ℕ} n k 0 0 lt) (omega arith)
  | inr ge ↦ rw (get_or_past {X = ℕ} (replicate n 0) k 0 (omega (arith, length-replicate {A = ℕ} n 0))) (omega arith)
]

pub last_len-push : (front : List Piece) (piece : Piece) → last_len (front ++ piece ∷ []) ≡ length piece.bytes
last_len-push [] piece = refl
last_len-push (first ∷ []) piece = refl
last_len-push (first ∷ next ∷ more) piece = last_len-push (next ∷ more) piece

pub with_last_bytes-push : (front : List Piece) (piece : Piece) (bytes : List ℕ)
    → with_last_bytes (front ++ piece ∷ []) bytes ≡ front ++ record piece { bytes = bytes } ∷ []
with_last_bytes-push [] piece bytes = refl
with_last_bytes-push (first ∷ []) piece bytes = refl
with_last_bytes-push (first ∷ next ∷ more) piece bytes =
    ap (λ (rest : List Piece). first ∷ rest) (with_last_bytes-push (next ∷ more) piece bytes)

-- Only the last piece has the bytes; nothing else depends on them.
last_of_passed : (direction : Direction) (tokens : ℕ) → (front : List Piece) × (count : ℕ)
    × ((bytes : List ℕ) → 0 < length bytes → passed direction bytes tokens
    ≡ front ++ record { direction = direction; bytes = bytes; tokens = count } ∷ [])
last_of_passed direction tokens = elim (cases_lt 65535 tokens) [
  | inl many ↦ (
    record { direction = direction; bytes = []; tokens = 65535 }
        ∷ [],
    tokens - 65535,
    λ bytes some. rw (lt-ltb 65535 tokens many) refl,
  )
  | inr few ↦ (
    [],
    tokens,
    λ bytes some. rw (le-ltb 65535 tokens few, ne_eqb (length bytes) 0 (λ none. omega arith))
        refl,
  )
]

-- the last piece recorded has these bytes
pub last_len-passed : (before : List Piece) (direction : Direction) (bytes : List ℕ) (tokens : ℕ) → 0 < length bytes
    → last_len (before ++ passed direction bytes tokens) ≡ length bytes
last_len-passed before direction bytes tokens some =
    let last = last_of_passed direction tokens in
    rw (
      last.2 bytes some,
      ← append_assoc before last.0
          (record { direction = direction; bytes = bytes; tokens = last.1 } ∷ []),
    ) (last_len-push (before ++ last.0) _)

-- zeros that are then overwritten by the bytes record the same as the bytes
pub filled_passed : (before : List Piece) (direction : Direction) (bytes : List ℕ) (tokens : ℕ) → 0 < length bytes
    → with_last_bytes (before ++ passed direction (replicate (length bytes) 0) tokens) bytes
    ≡ before ++ passed direction bytes tokens
filled_passed before direction bytes tokens some =
    let last = last_of_passed direction tokens in
    let zeros = length-replicate {A = ℕ} (length bytes) 0 in
    let blank : Piece = record { direction = direction; bytes = replicate (length bytes) 0; tokens = last.1 } in
    rw (
      last.2 (replicate (length bytes) 0) (omega (arith, zeros)),
      last.2 bytes some,
      ← append_assoc before last.0
          (blank ∷ []),
    )
    (with_last_bytes-push (before ++ last.0) blank bytes
    ∙ append_assoc before last.0 (record blank { bytes = bytes } ∷ []))

-- bytes written over a whole vector
pub written_over : (bytes held : List ℕ) (n : ℕ) → length bytes ≡ n → take n (bytes ++ held) ≡ bytes
written_over bytes held n same = rw (take-append-le n bytes held (omega arith), take_all n bytes (omega arith)) refl

-- the last piece with other bytes
pub rewritten : (front old : List Piece) (last : Piece) (bytes given : List ℕ) → old ≡ front ++ last ∷ []
    → bytes ≡ given
    → front ++ record last { bytes = bytes } ∷ [] ≡ with_last_bytes old given
rewritten front old last bytes given whole is = rw (whole, is) (sym (with_last_bytes-push front last given))
