-- Pieces that bring messages in step, from the view of a reader.
use Rattle.std.proofs.Common.{◌≡◌, ℕ, ◌+◌, ◌-◌, ◌<◌, ◌≤◌, ◌⊎◌, inl, inr, true, false, ltb, List, []}
use Rattle.std.proofs.Common.{◌∷◌, ◌++◌, length, take, drop, refl, sym, ap, ◌∙◌, arith}
use Rattle.std.proofs.Common.{length-append}
use Rattle.std.proofs.lemmas.Bool.Decides.{nat_tests}
use Rattle.std.proofs.lemmas.List.{length-drop, length-take}
use Rattle.wl_message.specs.InStep.{Part, part_bytes, part_tokens, Need, total_size, total_need, InStep}

-- a piece without its first n bytes and k tokens
abbrev pub less : Part → ℕ → ℕ → Part
less p n k = record { bytes = drop n p.bytes; tokens = drop k p.tokens }

-- two pieces joined to one
abbrev pub joined : Part → Part → Part
joined p q = record { bytes = p.bytes ++ q.bytes; tokens = p.tokens ++ q.tokens }

-- If a byte of the first message came with the first piece, its tokens came too, or no token comes
-- later.
pub step_first : (n : Need) (needs : List Need) (p : Part) (parts : List Part) → InStep (n ∷ needs) (p ∷ parts)
    → 0 < length p.bytes
    → (n.tokens ≤ length p.tokens) ⊎ (part_tokens parts ≡ [])
step_first n needs p parts s h = elim (s [] n needs refl [] p parts refl (omega arith) (omega arith))
    [ inl x ↦ inl (omega arith) | inr x ↦ inr x ]

-- After the first message is read with its tokens, the others are still in step.
pub step_read : (n : Need) (needs : List Need) (p : Part) (parts : List Part) → InStep (n ∷ needs) (p ∷ parts)
    → n.size ≤ length p.bytes → n.tokens ≤ length p.tokens
    → InStep needs (less p n.size n.tokens ∷ parts)
step_read n needs p parts s size tokens before this after e [] here later f low high =
    let q : less p n.size n.tokens ≡ here = cc f in
    let r : parts ≡ later = cc f in
    let hb : length here.bytes ≡ length p.bytes - n.size =
    ap (λ (x : Part). length x.bytes) (sym q) ∙ length-drop n.size p.bytes in
    let ht : length here.tokens ≡ length p.tokens - n.tokens =
    ap (λ (x : Part). length x.tokens) (sym q) ∙ length-drop n.tokens p.tokens in
    let g = s (n ∷ before) this after (ap (λ (x : List Need). n ∷ x) e) [] p later (ap (λ (x : List Part). p ∷ x) r)
    (omega arith) (omega arith) in
    elim g [ inl x ↦ inl (omega arith) | inr x ↦ inr x ]
step_read n needs p parts s size tokens before this after e (y ∷ earlier) here later f low high =
    let q : less p n.size n.tokens ≡ y = cc f in
    let r : parts ≡ earlier ++ here ∷ later = cc f in
    let hb : length (y.bytes ++ part_bytes earlier) ≡ (length p.bytes - n.size) + length (part_bytes earlier) =
    length-append y.bytes (part_bytes earlier) ∙ ap (λ (x : ℕ). x + length (part_bytes earlier))
    (ap (λ (x : Part). length x.bytes) (sym q) ∙ length-drop n.size p.bytes) in
    let ht : length (y.tokens ++ part_tokens earlier) ≡ (length p.tokens - n.tokens) + length (part_tokens earlier) =
    length-append y.tokens (part_tokens earlier) ∙ ap (λ (x : ℕ). x + length (part_tokens earlier))
    (ap (λ (x : Part). length x.tokens) (sym q) ∙ length-drop n.tokens p.tokens) in
    let pb = length-append p.bytes (part_bytes earlier) in
    let pt = length-append p.tokens (part_tokens earlier) in
    let g = s (n ∷ before) this after (ap (λ (x : List Need). n ∷ x) e) (p ∷ earlier) here later
    (ap (λ (x : List Part). p ∷ x) r) (omega arith) (omega arith) in
    elim g [ inl x ↦ inl (omega arith) | inr x ↦ inr x ]

none_at : (xs ys : List ℕ) → xs ++ ys ≡ [] → ys ≡ []
none_at [] ys h = h
none_at (x ∷ xs) ys h = cc h

none_of : (p : Part) (parts : List Part) → p.tokens ++ part_tokens parts ≡ [] → part_tokens parts ≡ []
none_of p parts e = none_at p.tokens (part_tokens parts) e

pub side : (a b : ℕ) → (a < b) ⊎ (b ≤ a)
side a b = elim (ltb a b) as (λ c. ltb a b ≡ c → (a < b) ⊎ (b ≤ a))
    [ true ↦ λ h. inl (grind (arith, nat_tests)) | false ↦ λ h. inr (grind (arith, nat_tests)) ] refl

joined_at : (needs : List Need) (p q : Part) (parts : List Part) → InStep needs (p ∷ q ∷ parts)
    → (before : List Need) (this : Need) (after : List Need) → needs ≡ before ++ this ∷ after
    → total_size before < length p.bytes + length q.bytes
    → (total_size before < length p.bytes) ⊎ (length p.bytes ≤ total_size before)
    → (total_need before + this.tokens ≤ length p.tokens + length q.tokens) ⊎ (part_tokens parts ≡ [])
joined_at needs p q parts s before this after e high (inl h) =
    elim (s before this after e [] p (q ∷ parts) refl (omega arith) (omega arith))
    [ inl x ↦ inl (omega arith) | inr x ↦ inr (none_of q parts x) ]
joined_at needs p q parts s before this after e high (inr h) =
    let pb = length-append p.bytes [] in
    let pt = length-append p.tokens [] in
    elim (s before this after e (p ∷ []) q parts refl (omega arith) (omega arith))
    [ inl x ↦ inl (omega arith) | inr x ↦ inr x ]

-- Two consecutive pieces count as one.
pub step_joined : (needs : List Need) (p q : Part) (parts : List Part) → InStep needs (p ∷ q ∷ parts)
    → InStep needs (joined p q ∷ parts)
step_joined needs p q parts s before this after e [] here later f low high =
    let k : joined p q ≡ here = cc f in
    let r : parts ≡ later = cc f in
    let hb : length here.bytes ≡ length p.bytes + length q.bytes =
    ap (λ (x : Part). length x.bytes) (sym k) ∙ length-append p.bytes q.bytes in
    let ht : length here.tokens ≡ length p.tokens + length q.tokens =
    ap (λ (x : Part). length x.tokens) (sym k) ∙ length-append p.tokens q.tokens in
    elim (joined_at needs p q parts s before this after e (omega arith) (side (total_size before) (length p.bytes))) [
      | inl x ↦ inl (omega arith)
      | inr x ↦ inr (ap (λ (l : List Part). part_tokens l) (sym r) ∙ x)
    ]
step_joined needs p q parts s before this after e (y ∷ earlier) here later f low high =
    let k : joined p q ≡ y = cc f in
    let r : parts ≡ earlier ++ here ∷ later = cc f in
    let hb : length (y.bytes ++ part_bytes earlier) ≡ (length p.bytes + length q.bytes) + length (part_bytes earlier) =
    length-append y.bytes (part_bytes earlier) ∙ ap (λ (x : ℕ). x + length (part_bytes earlier))
    (ap (λ (x : Part). length x.bytes) (sym k) ∙ length-append p.bytes q.bytes) in
    let ht : length (y.tokens ++ part_tokens earlier)
    ≡ (length p.tokens + length q.tokens) + length (part_tokens earlier) =
    length-append y.tokens (part_tokens earlier) ∙ ap (λ (x : ℕ). x + length (part_tokens earlier))
    (ap (λ (x : Part). length x.tokens) (sym k) ∙ length-append p.tokens q.tokens) in
    let pb = length-append p.bytes (q.bytes ++ part_bytes earlier) in
    let qb = length-append q.bytes (part_bytes earlier) in
    let pt = length-append p.tokens (q.tokens ++ part_tokens earlier) in
    let qt = length-append q.tokens (part_tokens earlier) in
    elim (s before this after e (p ∷ q ∷ earlier) here later (ap (λ (x : List Part). p ∷ q ∷ x) r) (omega arith)
    (omega arith)) [ inl x ↦ inl (omega arith) | inr x ↦ inr x ]

-- A piece that is taken in two parts, all tokens with the first part, counts as two.
pub step_parted : (needs : List Need) (p : Part) (n : ℕ) (parts : List Part) → InStep needs (p ∷ parts)
    → InStep needs (record { bytes = take n p.bytes; tokens = p.tokens }
    ∷ record { bytes = drop n p.bytes; tokens = [] } ∷ parts)
step_parted needs p n parts s before this after e [] here later f low high =
    let first : Part = record { bytes = take n p.bytes; tokens = p.tokens } in
    let second : Part = record { bytes = drop n p.bytes; tokens = [] } in
    let k : first ≡ here = cc f in
    let r : second ∷ parts ≡ later = cc f in
    let hb : length here.bytes ≡ length (take n p.bytes) = ap (λ (x : Part). length x.bytes) (sym k) in
    let ht : length here.tokens ≡ length p.tokens = ap (λ (x : Part). length x.tokens) (sym k) in
    let tb = length-take n p.bytes in
    elim (s before this after e [] p parts refl (omega arith) (omega arith)) [
      | inl x ↦ inl (omega arith)
      | inr x ↦ inr (ap (λ (l : List Part). part_tokens l) (sym r) ∙ x)
    ]
step_parted needs p n parts s before this after e (y ∷ []) here later f low high =
    let first : Part = record { bytes = take n p.bytes; tokens = p.tokens } in
    let second : Part = record { bytes = drop n p.bytes; tokens = [] } in
    let k : first ≡ y = cc f in
    let j : second ≡ here = cc f in
    let r : parts ≡ later = cc f in
    let yb : length (y.bytes ++ []) ≡ length (take n p.bytes) + 0 =
    length-append y.bytes [] ∙ ap (λ (x : Part). length x.bytes + 0) (sym k) in
    let yt : length (y.tokens ++ []) ≡ length p.tokens + 0 =
    length-append y.tokens [] ∙ ap (λ (x : Part). length x.tokens + 0) (sym k) in
    let hb : length here.bytes ≡ length p.bytes - n =
    ap (λ (x : Part). length x.bytes) (sym j) ∙ length-drop n p.bytes in
    let tb = length-take n p.bytes in
    elim (s before this after e [] p parts refl (omega arith) (omega arith)) [
      | inl x ↦ inl (omega arith)
      | inr x ↦ inr (ap (λ (l : List Part). part_tokens l) (sym r) ∙ x)
    ]
step_parted needs p n parts s before this after e (y ∷ z ∷ earlier) here later f low high =
    let first : Part = record { bytes = take n p.bytes; tokens = p.tokens } in
    let second : Part = record { bytes = drop n p.bytes; tokens = [] } in
    let k : first ≡ y = cc f in
    let j : second ≡ z = cc f in
    let r : parts ≡ earlier ++ here ∷ later = cc f in
    let yb : length y.bytes ≡ length (take n p.bytes) = ap (λ (x : Part). length x.bytes) (sym k) in
    let yt : length y.tokens ≡ length p.tokens = ap (λ (x : Part). length x.tokens) (sym k) in
    let zb : length z.bytes ≡ length p.bytes - n = ap (λ (x : Part). length x.bytes) (sym j) ∙ length-drop n p.bytes in
    let zt : length z.tokens ≡ 0 = ap (λ (x : Part). length x.tokens) (sym j) in
    let tb = length-take n p.bytes in
    let b1 = length-append y.bytes (z.bytes ++ part_bytes earlier) in
    let b2 = length-append z.bytes (part_bytes earlier) in
    let t1 = length-append y.tokens (z.tokens ++ part_tokens earlier) in
    let t2 = length-append z.tokens (part_tokens earlier) in
    let pb = length-append p.bytes (part_bytes earlier) in
    let pt = length-append p.tokens (part_tokens earlier) in
    elim (s before this after e (p ∷ earlier) here later (ap (λ (x : List Part). p ∷ x) r) (omega arith) (omega arith))
    [ inl x ↦ inl (omega arith) | inr x ↦ inr x ]
