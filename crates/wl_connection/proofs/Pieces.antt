-- Pieces, and how much of them was taken.
use Rattle.std.proofs.Common.{◌≡◌, ℕ, get_or, map, ◌≤◌, zero, suc, ◌+◌, ◌<◌, ◌⊎◌, inl, List}
use Rattle.std.proofs.Common.{[], ◌∷◌, ◌++◌, length, take, drop, refl, sym, ap, subst, ◌∙◌, arith}
use Rattle.std.proofs.lemmas.List.{append_assoc, append-nil}
use Rattle.wl_message.specs.declared.amounts.Amounts.{Amounts}
use Rattle.wl_message.specs.declared.amounts.Piece.{Piece}
use Rattle.wl_message.specs.InStep.{part, Part, part_bytes, part_tokens}
use Rattle.wl_connection.specs.Core.{no_room}
use Rattle.wl_connection.specs.Streams.{IsTaken, taken_bytes, taken_tokens, NoneFits}

-- ---- one piece among the others

same_first : (p q : Part) (ps qs : List Part) → p ∷ ps ≡ q ∷ qs → p ≡ q
same_first p q ps qs h = cc h

pub taken_bytes-at : (pieces : List Part) (i : ℕ) (some : Amounts) (p : Part) (rest : List Part)
    → drop i pieces ≡ p ∷ rest
    → taken_bytes pieces i some ≡ part_bytes (take i pieces) ++ take some.bytes p.bytes
taken_bytes-at [] zero some p rest h = absurd (cc h)
taken_bytes-at [] (suc i) some p rest h = absurd (cc h)
taken_bytes-at (q ∷ ps) zero some p rest h = ap (λ (x : Part). take some.bytes x.bytes) (same_first q p ps rest h)
taken_bytes-at (q ∷ ps) (suc i) some p rest h =
    ap (λ (l : List ℕ). q.bytes ++ l) (taken_bytes-at ps i some p rest h)
    ∙ sym (append_assoc q.bytes (part_bytes (take i ps)) (take some.bytes p.bytes))

pub taken_tokens-at : (pieces : List Part) (i : ℕ) (some : Amounts) (p : Part) (rest : List Part)
    → drop i pieces ≡ p ∷ rest
    → taken_tokens pieces i some ≡ part_tokens (take i pieces) ++ take some.tokens p.tokens
taken_tokens-at [] zero some p rest h = absurd (cc h)
taken_tokens-at [] (suc i) some p rest h = absurd (cc h)
taken_tokens-at (q ∷ ps) zero some p rest h = ap (λ (x : Part). take some.tokens x.tokens) (same_first q p ps rest h)
taken_tokens-at (q ∷ ps) (suc i) some p rest h =
    ap (λ (l : List ℕ). q.tokens ++ l) (taken_tokens-at ps i some p rest h)
    ∙ sym (append_assoc q.tokens (part_tokens (take i ps)) (take some.tokens p.tokens))

pub is_taken_at : (pieces : List Part) (i : ℕ) (some : Amounts) (p : Part) (rest : List Part) → drop i pieces ≡ p ∷ rest
    → (some ≡ no_room) ⊎ ((some.bytes < length p.bytes) × (some.tokens ≡ length p.tokens)) → IsTaken pieces i some
is_taken_at [] zero some p rest h t = absurd (cc h)
is_taken_at [] (suc i) some p rest h t = absurd (cc h)
is_taken_at (q ∷ ps) zero some p rest h t = subst
    (λ (x : Part). (some ≡ no_room) ⊎ ((some.bytes < length x.bytes) × (some.tokens ≡ length x.tokens)))
    (sym (same_first q p ps rest h)) t
is_taken_at (q ∷ ps) (suc i) some p rest h t = is_taken_at ps i some p rest h t

pub none_fits_at : (room : ℕ) (pieces : List Part) (i : ℕ) (p : Part) (rest : List Part) → drop i pieces ≡ p ∷ rest
    → room < length p.tokens → NoneFits room pieces i
none_fits_at room [] zero p rest h t = tt
none_fits_at room [] (suc i) p rest h t = tt
none_fits_at room (q ∷ ps) zero p rest h t = subst (λ (x : Part). room < length x.tokens)
    (sym (same_first q p ps rest h)) t
none_fits_at room (q ∷ ps) (suc i) p rest h t = none_fits_at room ps i p rest h t

pub part_bytes-next : (pieces : List Part) (i : ℕ) (p : Part) (rest : List Part) → drop i pieces ≡ p ∷ rest
    → part_bytes (take (suc i) pieces) ≡ part_bytes (take i pieces) ++ p.bytes
part_bytes-next [] zero p rest h = absurd (cc h)
part_bytes-next [] (suc i) p rest h = absurd (cc h)
part_bytes-next (q ∷ ps) zero p rest h = append-nil q.bytes ∙ ap (λ (x : Part). x.bytes) (same_first q p ps rest h)
part_bytes-next (q ∷ ps) (suc i) p rest h = ap (λ (l : List ℕ). q.bytes ++ l) (part_bytes-next ps i p rest h)
    ∙ sym (append_assoc q.bytes (part_bytes (take i ps)) p.bytes)

pub part_tokens-next : (pieces : List Part) (i : ℕ) (p : Part) (rest : List Part) → drop i pieces ≡ p ∷ rest
    → part_tokens (take (suc i) pieces) ≡ part_tokens (take i pieces) ++ p.tokens
part_tokens-next [] zero p rest h = absurd (cc h)
part_tokens-next [] (suc i) p rest h = absurd (cc h)
part_tokens-next (q ∷ ps) zero p rest h = append-nil q.tokens ∙ ap (λ (x : Part). x.tokens) (same_first q p ps rest h)
part_tokens-next (q ∷ ps) (suc i) p rest h = ap (λ (l : List ℕ). q.tokens ++ l) (part_tokens-next ps i p rest h)
    ∙ sym (append_assoc q.tokens (part_tokens (take i ps)) p.tokens)

-- no piece remains
pub none_fits_end : (room : ℕ) (pieces : List Part) (i : ℕ) → length pieces ≤ i → NoneFits room pieces i
none_fits_end room [] i h = tt
none_fits_end room (p ∷ ps) zero h = absurd (omega arith)
none_fits_end room (p ∷ ps) (suc i) h = none_fits_end room ps i (omega arith)

-- ---- whole pieces only

pub is_taken_none : (pieces : List Part) (i : ℕ) → i ≤ length pieces → IsTaken pieces i no_room
is_taken_none [] zero h = (refl, refl)
is_taken_none [] (suc i) h = absurd (omega arith)
is_taken_none (p ∷ ps) zero h = inl refl
is_taken_none (p ∷ ps) (suc i) h = is_taken_none ps i (omega arith)

pub taken_bytes-none : (pieces : List Part) (i : ℕ) → taken_bytes pieces i no_room ≡ part_bytes (take i pieces)
taken_bytes-none [] zero = refl
taken_bytes-none [] (suc i) = refl
taken_bytes-none (p ∷ ps) zero = refl
taken_bytes-none (p ∷ ps) (suc i) = ap (λ (l : List ℕ). p.bytes ++ l) (taken_bytes-none ps i)

pub taken_tokens-none : (pieces : List Part) (i : ℕ) → taken_tokens pieces i no_room ≡ part_tokens (take i pieces)
taken_tokens-none [] zero = refl
taken_tokens-none [] (suc i) = refl
taken_tokens-none (p ∷ ps) zero = refl
taken_tokens-none (p ∷ ps) (suc i) = ap (λ (l : List ℕ). p.tokens ++ l) (taken_tokens-none ps i)

-- ---- pieces in memory

pub parts_len : (pieces : List Piece) → length (map part pieces) ≡ length pieces
parts_len [] = refl
parts_len (p ∷ ps) = ap suc (parts_len ps)

pub part_at : (pieces : List Piece) (i : ℕ) (d : Piece) → i < length pieces
    → drop i (map part pieces) ≡ part (get_or pieces i d) ∷ drop (suc i) (map part pieces)
part_at [] i d h = absurd (omega arith)
part_at (p ∷ ps) zero d h = refl
part_at (p ∷ ps) (suc i) d h = part_at ps i d (omega arith)

-- not all tokens of a piece fit
pub few_fit : (room told : ℕ) (pieces : List Piece) (i : ℕ) (d : Piece) → i < length pieces
    → told < length (get_or pieces i d).tokens.now → told ≡ room → NoneFits room (map part pieces) i
few_fit room told pieces i d h few e = none_fits_at room (map part pieces) i (part (get_or pieces i d))
    (drop (suc i) (map part pieces)) (part_at pieces i d h) (omega arith)
