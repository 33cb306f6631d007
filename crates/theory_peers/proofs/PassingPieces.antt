-- Pieces on their way bring the tokens of a message no later than its last byte.
use Rattle.std.proofs.Common.{◌≡◌, ℕ, zero, suc, ◌+◌, ◌-◌, ◌<◌, ◌≤◌, List, [], ◌∷◌, ◌++◌, length, length-append}
use Rattle.std.proofs.Common.{refl, sym, ap, subst, ◌∙◌, arith}
use Rattle.std.proofs.lemmas.List.{append_assoc, append-nil}
use Rattle.wl_message.specs.Cut.{IsMessage}
use Rattle.wl_message.specs.Outgoing.{QueuedMessage, all_bytes, all_tokens}
use Rattle.wl_recording.specs.Piece.{Piece}
use Rattle.theory_connection.specs.World.{Each}
use Rattle.theory_peers.specs.ServerStreams.{IsCutInTwo}

-- ---- what pieces bring

abbrev pub bytes_passing : List Piece → List ℕ
bytes_passing [] = []
bytes_passing (p ∷ ps) = p.bytes ++ bytes_passing ps

abbrev pub tokens_passing : List Piece → ℕ
tokens_passing [] = 0
tokens_passing (p ∷ ps) = p.tokens + tokens_passing ps

pub bytes_passing_more : (ps : List Piece) (p : Piece) → bytes_passing (ps ++ p ∷ []) ≡ bytes_passing ps ++ p.bytes
bytes_passing_more [] p = append-nil p.bytes
bytes_passing_more (q ∷ ps) p = ap (λ (l : List ℕ). q.bytes ++ l) (bytes_passing_more ps p)
    ∙ sym (append_assoc q.bytes (bytes_passing ps) p.bytes)

pub tokens_passing_more : (ps : List Piece) (p : Piece) → tokens_passing (ps ++ p ∷ []) ≡ tokens_passing ps + p.tokens
tokens_passing_more [] p = omega arith
tokens_passing_more (q ∷ ps) p = let h = tokens_passing_more ps p in omega (arith, h)

-- the tokens of the pieces that have a byte among the next n
abbrev pub begun_tokens : ℕ → List Piece → ℕ
begun_tokens n [] = 0
begun_tokens zero (p ∷ ps) = 0
begun_tokens (suc n) (p ∷ ps) = p.tokens + begun_tokens (suc n - length p.bytes) ps

pub begun_none : (ps : List Piece) → begun_tokens zero ps ≡ 0
begun_none [] = refl
begun_none (p ∷ ps) = refl

-- one piece more brings no fewer
pub begun_grow : (n : ℕ) (ps : List Piece) (p : Piece) → begun_tokens n ps ≤ begun_tokens n (ps ++ p ∷ [])
begun_grow n [] p = omega arith
begun_grow zero (q ∷ ps) p = omega arith
begun_grow (suc n) (q ∷ ps) p = let h = begun_grow (suc n - length q.bytes) ps p in omega (arith, h)

-- all of them, if the last piece has one of these bytes
pub begun_last : (n : ℕ) (ps : List Piece) (p : Piece) → length (bytes_passing ps) < n
    → begun_tokens n (ps ++ p ∷ []) ≡ tokens_passing ps + p.tokens
begun_last zero ps p h = absurd (omega (arith, h))
begun_last (suc n) [] p h = omega arith
begun_last (suc n) (q ∷ ps) p h =
    let l = length-append q.bytes (bytes_passing ps) in
    let r = begun_last (suc n - length q.bytes) ps p (omega (arith, h, l)) in
    omega (arith, r)

-- ---- how many tokens there are when n bytes have come

-- `here` bytes and `tokens` tokens are there, and these pieces follow
abbrev pub supply : ℕ → ℕ → List Piece → ℕ → ℕ
supply here tokens pieces n = tokens + begun_tokens (n - here) pieces

supply_fed_at : (k : ℕ) (tokens : ℕ) (p : Piece) (ps : List Piece)
    → tokens + begun_tokens k (p ∷ ps) ≤ (tokens + p.tokens) + begun_tokens (k - length p.bytes) ps
supply_fed_at zero tokens p ps = omega arith
supply_fed_at (suc k) tokens p ps = omega arith

-- the next piece has come
pub supply_fed : (here tokens : ℕ) (p : Piece) (ps : List Piece) (n : ℕ)
    → supply here tokens (p ∷ ps) n ≤ supply (here + length p.bytes) (tokens + p.tokens) ps n
supply_fed here tokens p ps n =
    let k : n - (here + length p.bytes) ≡ n - here - length p.bytes = omega arith in
    let h = supply_fed_at (n - here) tokens p ps in
    subst (λ (m : ℕ). tokens + begun_tokens (n - here) (p ∷ ps) ≤ (tokens + p.tokens) + begun_tokens m ps) (sym k) h

-- a piece more is on its way
pub supply_more : (here tokens : ℕ) (ps : List Piece) (p : Piece) (n : ℕ)
    → supply here tokens ps n ≤ supply here tokens (ps ++ p ∷ []) n
supply_more here tokens ps p n = let h = begun_grow (n - here) ps p in omega (arith, h)

supply_cut_at : (k : ℕ) (piece first second : Piece) (ps : List Piece) (a : ℕ) → a ≡ length first.bytes
    → IsCutInTwo piece first second → begun_tokens k (piece ∷ ps) ≤ begun_tokens k (first ∷ second ∷ ps)
supply_cut_at zero piece first second ps a l c = omega arith
supply_cut_at (suc k) piece first second ps a l c =
    let tokens = c.tokens in
    let size : length piece.bytes ≡ a + length second.bytes =
    ap length c.bytes ∙ length-append first.bytes second.bytes ∙ (λ i. sym l i + length second.bytes) in
    by_rest (suc k - a) refl size
  where
    by_rest : (d : ℕ) → d ≡ suc k - a → length piece.bytes ≡ a + length second.bytes
        → begun_tokens (suc k) (piece ∷ ps) ≤ begun_tokens (suc k) (first ∷ second ∷ ps)
    by_rest zero is size =
        let some : 0 < length first.bytes = omega (arith, is, l) in
        let none = c.no_later some in
        let tokens = c.tokens in
        let rest : suc k - length piece.bytes ≡ 0 = omega (arith, is, size) in
        let no = ap (λ (m : ℕ). begun_tokens m ps) rest ∙ begun_none ps in
        omega (arith, none, tokens, no)
    by_rest (suc d) is size =
        let tokens = c.tokens in
        let here : suc k - length first.bytes ≡ suc d = omega (arith, is, l) in
        let rest : suc k - length piece.bytes ≡ suc d - length second.bytes = omega (arith, is, size) in
        let left = ap (λ (m : ℕ). begun_tokens m ps) rest in
        let right = ap (λ (m : ℕ). begun_tokens m (second ∷ ps)) here in
        omega (arith, tokens, left, right)

-- a piece on its way is cut anew
pub supply_cut : (here tokens : ℕ) (piece first second : Piece) (ps : List Piece) → IsCutInTwo piece first second
    → (n : ℕ) → supply here tokens (piece ∷ ps) n ≤ supply here tokens (first ∷ second ∷ ps) n
supply_cut here tokens piece first second ps c n =
    let h = supply_cut_at (n - here) piece first second ps (length first.bytes) refl c in
    omega (arith, h)

-- ---- messages that have their tokens in time

-- Messages follow one another from a place on. When the last byte of one has come, its tokens and
-- those of the messages before it have come.
abbrev pub HaveTokens : (ℕ → ℕ) → ℕ → ℕ → List QueuedMessage → Type 0
HaveTokens supplied end count [] = Unit {0}
HaveTokens supplied end count (m ∷ ms) =
    (count + length m.tokens ≤ supplied (end + length m.bytes))
    × HaveTokens supplied (end + length m.bytes) (count + length m.tokens) ms

pub have_more : (f g : ℕ → ℕ) → ((n : ℕ) → f n ≤ g n) → (end count : ℕ) (ms : List QueuedMessage)
    → HaveTokens f end count ms → HaveTokens g end count ms
have_more f g more end count [] h = tt
have_more f g more end count (m ∷ ms) h = (
  (let a = h.0 in let b = more (end + length m.bytes) in omega (arith, a, b)),
  have_more f g more (end + length m.bytes) (count + length m.tokens) ms h.1,
)

-- the same, counted from a later place
pub have_behind : (f g : ℕ → ℕ) (b t : ℕ) → ((n : ℕ) → f (b + n) ≤ t + g n) → (end end' count count' : ℕ)
    → end' ≡ b + end → count' ≡ t + count → (ms : List QueuedMessage) → HaveTokens f end' count' ms
    → HaveTokens g end count ms
have_behind f g b t less end end' count count' e c [] h = tt
have_behind f g b t less end end' count count' e c (m ∷ ms) h =
    let here : end' + length m.bytes ≡ b + (end + length m.bytes) = omega (arith, e) in (
      (let a = h.0 in let l = less (end + length m.bytes) in let same = ap f here in omega (arith, a, l, same, c)),
      have_behind f g b t less (end + length m.bytes) (end' + length m.bytes) (count + length m.tokens)
          (count' + length m.tokens) here (omega (arith, c)) ms h.1,
    )

-- more messages follow
pub have_join : (f : ℕ → ℕ) (end end' count count' : ℕ) (xs ys : List QueuedMessage)
    → end' ≡ end + length (all_bytes xs) → count' ≡ count + length (all_tokens xs)
    → HaveTokens f end count xs → HaveTokens f end' count' ys → HaveTokens f end count (xs ++ ys)
have_join f end end' count count' [] ys e c h k =
    let same : end' ≡ end = omega (arith, e) in
    let counted : count' ≡ count = omega (arith, c) in
    subst (λ (n : ℕ). HaveTokens f n count ys) same (subst (λ (n : ℕ). HaveTokens f end' n ys) counted k)
have_join f end end' count count' (x ∷ xs) ys e c h k = (
  h.0,
  have_join f (end + length x.bytes) end' (count + length x.tokens) count' xs ys
      (let l = length-append x.bytes (all_bytes xs) in omega (arith, e, l))
      (let l = length-append x.tokens (all_tokens xs) in omega (arith, c, l)) h.1 k,
)

-- messages that end behind all pieces have the tokens of all
pub have_last : (limit : ℕ) (f : ℕ → ℕ) (low all : ℕ) → ((n : ℕ) → low < n → all ≤ f n) → (end count : ℕ)
    (ms : List QueuedMessage) → low ≤ end → count + length (all_tokens ms) ≤ all → Each (λ m. IsMessage limit m.bytes) ms
    → HaveTokens f end count ms
have_last limit f low all there end count [] h few whole = tt
have_last limit f low all there end count (m ∷ ms) h few whole =
    let size = whole.0.size.header in
    let l = length-append m.tokens (all_tokens ms) in (
      (let a = there (end + length m.bytes) (omega (arith, h, size)) in omega (arith, a, few, l)),
      have_last limit f low all there (end + length m.bytes) (count + length m.tokens) ms (omega (arith, h))
          (omega (arith, few, l)) whole.1,
    )
