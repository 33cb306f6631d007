-- What leaves an outbox, and that it leaves in step.
use Rattle.std.proofs.Common.{◌≡◌, ℕ, zero, suc, ◌+◌, ◌-◌, ◌<◌, ◌≤◌, ◌⊎◌, inl, inr, List, [], ◌∷◌}
use Rattle.std.proofs.Common.{◌++◌, length, take, drop, map, refl, sym, ap, subst, ◌∙◌, arith}
use Rattle.std.proofs.Common.{length-append}
use Rattle.std.proofs.lemmas.List.{append_assoc, append-nil, take-append-drop, take-append-le, take_all, map-append}
use Rattle.wl_message.specs.declared.amounts.Amounts.{Amounts}
use Rattle.wl_message.specs.Outgoing.{QueuedMessage, Outgoing, all_bytes, all_tokens, begun, newly_begun}
use Rattle.wl_message.specs.Outgoing.{Goes, goes, waiting_bytes, waiting_tokens, after_taking}
use Rattle.wl_message.specs.InStep.{Part, part_bytes, part_tokens, Need, need, total_size}
use Rattle.wl_message.specs.InStep.{total_need, InStep, TakesFromFront, HaveCarried, part_taken, Gave, starts}
use Rattle.wl_message.specs.InStep.{adds, adds_error, takes}
use Rattle.wl_message.proofs.WhatGoes.{begun_front}

pub bytes_append : (xs ys : List QueuedMessage) → all_bytes (xs ++ ys) ≡ all_bytes xs ++ all_bytes ys
bytes_append [] ys = refl
bytes_append (x ∷ xs) ys = ap (λ (l : List ℕ). x.bytes ++ l) (bytes_append xs ys)
    ∙ sym (append_assoc x.bytes (all_bytes xs) (all_bytes ys))

pub tokens_append : (xs ys : List QueuedMessage) → all_tokens (xs ++ ys) ≡ all_tokens xs ++ all_tokens ys
tokens_append [] ys = refl
tokens_append (x ∷ xs) ys = ap (λ (l : List ℕ). x.tokens ++ l) (tokens_append xs ys)
    ∙ sym (append_assoc x.tokens (all_tokens xs) (all_tokens ys))

-- the messages that n bytes begin have at least n bytes in all, if so many wait
pub begun_enough : (n : ℕ) (ms : List QueuedMessage) → n ≤ length (all_bytes ms) → n ≤ length (all_bytes (begun n ms))
begun_enough n [] h = h
begun_enough zero (m ∷ ms) h = omega arith
begun_enough (suc n) (m ∷ ms) h =
    let r = begun_enough (suc n - length m.bytes) ms (omega (arith, h, length-append m.bytes (all_bytes ms))) in
    omega (arith, r, length-append m.bytes (all_bytes (begun (suc n - length m.bytes) ms)))

take_front : (xs ys : List ℕ) → take (length xs) (xs ++ ys) ≡ xs
take_front xs ys = take-append-le (length xs) xs ys (omega arith) ∙ take_all (length xs) xs (omega arith)

pub passes : (o : Outgoing) (b t : ℕ) (taken : Amounts) → Goes o b t taken → TakesFromFront o taken
passes o b t taken g =
    let n : ℕ = taken.bytes in
    let begins = newly_begun o n in
    let after = drop (length begins) o.messages in
    let front : begins ≡ take (length begins) o.messages = begun_front (n - length o.left) o.messages in
    let all : o.messages ≡ begins ++ after =
    sym (take-append-drop (length begins) o.messages) ∙ ap (λ (l : List QueuedMessage). l ++ after) (sym front) in
    let bytes : waiting_bytes o ≡ (o.left ++ all_bytes begins) ++ all_bytes after =
    ap (λ (l : List QueuedMessage). o.left ++ all_bytes l) all
    ∙ ap (λ (l : List ℕ). o.left ++ l) (bytes_append begins after)
    ∙ sym (append_assoc o.left (all_bytes begins) (all_bytes after)) in
    let enough : n ≤ length (o.left ++ all_bytes begins) =
    let e = begun_enough (n - length o.left) o.messages
    (omega (arith, g.may.there, length-append o.left (all_bytes o.messages))) in
    omega (arith, e, length-append o.left (all_bytes begins)) in
    let tokens : waiting_tokens o ≡ all_tokens begins ++ all_tokens after =
    ap (λ (l : List QueuedMessage). all_tokens l) all ∙ tokens_append begins after in
    record {
      rest = all;
      gone = sym (take-append-drop n (o.left ++ all_bytes begins))
          ∙ ap (λ (l : List ℕ). l ++ drop n (o.left ++ all_bytes begins))
          (sym (ap (take n) bytes ∙ take-append-le n (o.left ++ all_bytes begins) (all_bytes after) enough));
      with_tokens = ap (λ (k : ℕ). take k (waiting_tokens o)) g.with_tokens
          ∙ ap (take (length (all_tokens begins))) tokens ∙ take_front (all_tokens begins) (all_tokens after);
    }

-- ---- pieces

part_bytes_append : (xs ys : List Part) → part_bytes (xs ++ ys) ≡ part_bytes xs ++ part_bytes ys
part_bytes_append [] ys = refl
part_bytes_append (x ∷ xs) ys = ap (λ (l : List ℕ). x.bytes ++ l) (part_bytes_append xs ys)
    ∙ sym (append_assoc x.bytes (part_bytes xs) (part_bytes ys))

part_tokens_append : (xs ys : List Part) → part_tokens (xs ++ ys) ≡ part_tokens xs ++ part_tokens ys
part_tokens_append [] ys = refl
part_tokens_append (x ∷ xs) ys = ap (λ (l : List ℕ). x.tokens ++ l) (part_tokens_append xs ys)
    ∙ sym (append_assoc x.tokens (part_tokens xs) (part_tokens ys))

pub carried : (sent : List QueuedMessage) (o : Outgoing) (parts : List Part) (b t : ℕ) (taken : Amounts)
    → Goes o b t taken
    → HaveCarried sent o.left parts
    → HaveCarried (sent ++ newly_begun o taken.bytes) (after_taking o taken.bytes).left
    (parts ++ part_taken o taken ∷ [])
carried sent o parts b t taken g c =
    let p = passes o b t taken g in
    let begins = newly_begun o taken.bytes in
    let here = part_taken o taken in
    let left = (after_taking o taken.bytes).left in
    record {
      bytes =
          ap (λ (l : List ℕ). l ++ left) (part_bytes_append parts (here ∷ [])
          ∙ ap (λ (l : List ℕ). part_bytes parts ++ l) (append-nil here.bytes))
          ∙ append_assoc (part_bytes parts) here.bytes left ∙ ap (λ (l : List ℕ). part_bytes parts ++ l) (sym p.gone)
          ∙ sym (append_assoc (part_bytes parts) o.left (all_bytes begins))
          ∙ ap (λ (l : List ℕ). l ++ all_bytes begins) c.bytes ∙ sym (bytes_append sent begins);
      tokens =
          part_tokens_append parts (here ∷ []) ∙ ap (λ (l : List ℕ). part_tokens parts ++ l)
          (append-nil here.tokens ∙ p.with_tokens)
          ∙ ap (λ (l : List ℕ). l ++ all_tokens begins) c.tokens ∙ sym (tokens_append sent begins);
    }

-- a message whose first byte is among these messages' bytes has its tokens among theirs
among : (these others before : List Need) (this : Need) (after : List Need) → these ++ others ≡ before ++ this ∷ after
    → total_size before < total_size these
    → total_need before + this.tokens ≤ total_need these
among [] others before this after e h = absurd (omega arith)
among (x ∷ these) others [] this after e h = let f : x.tokens ≡ this.tokens = cc e in omega (arith, f)
among (x ∷ these) others (y ∷ before) this after e h =
    let f : x ≡ y = cc e in
    let d : these ++ others ≡ before ++ this ∷ after = cc e in
    let s = ap (λ (n : Need). n.size) f in
    let t = ap (λ (n : Need). n.tokens) f in
    omega (arith, among these others before this after d (omega (arith, s)), t)

-- one more piece is at the end
abbrev pub EndsWith : List Part → Part → List Part → Part → List Part → Type 0
EndsWith parts more earlier here later = (later ≡ [])
    ⊎ ((fewer : List Part) × (later ≡ fewer ++ more ∷ []) × (parts ≡ earlier ++ here ∷ fewer))

longer : (parts earlier : List Part) (more here : Part) (later : List Part) (p : Part)
    → EndsWith parts more earlier here later → EndsWith (p ∷ parts) more (p ∷ earlier) here later
longer parts earlier more here later p (inl e) = inl e
longer parts earlier more here later p (inr f) = inr (f.0, f.1, ap (λ (l : List Part). p ∷ l) f.2)

no_more : (xs : List Part) (x : Part) (ys : List Part) → [] ≡ xs ++ x ∷ ys → ⊥
no_more [] x ys e = cc e
no_more (y ∷ xs) x ys e = cc e

ends_with : (parts : List Part) (more : Part) (earlier : List Part) (here : Part) (later : List Part)
    → parts ++ more ∷ [] ≡ earlier ++ here ∷ later → EndsWith parts more earlier here later
ends_with [] more [] here later e = inl (cc e)
ends_with [] more (y ∷ earlier) here later e = let f : [] ≡ earlier ++ here ∷ later = cc e
    in absurd (no_more earlier here later f)
ends_with (p ∷ parts) more [] here later e =
    let f : p ≡ here = cc e in
    let d : later ≡ parts ++ more ∷ [] = cc e in
    inr (parts, d, ap (λ (q : Part). q ∷ parts) f)
ends_with (p ∷ parts) more (y ∷ earlier) here later e =
    let f : p ≡ y = cc e in
    let d : parts ++ more ∷ [] ≡ earlier ++ here ∷ later = cc e in
    subst (λ (q : Part). EndsWith (p ∷ parts) more (q ∷ earlier) here later) f
    (longer parts earlier more here later p (ends_with parts more earlier here later d))

need_size : (ms : List QueuedMessage) → total_size (map need ms) ≡ length (all_bytes ms)
need_size [] = refl
need_size (m ∷ ms) = omega (arith, need_size ms, length-append m.bytes (all_bytes ms))

need_tokens : (ms : List QueuedMessage) → total_need (map need ms) ≡ length (all_tokens ms)
need_tokens [] = refl
need_tokens (m ∷ ms) = omega (arith, need_tokens ms, length-append m.tokens (all_tokens ms))

-- the tokens of the pieces up to this one are enough, or no token comes later
abbrev pub Enough : List Need → Need → List Part → Part → List Part → Type 0
Enough before this earlier here later =
    (total_need before + this.tokens ≤ length (part_tokens earlier) + length here.tokens) ⊎ (part_tokens later ≡ [])

came_before : (sent waiting : List QueuedMessage) (left : List ℕ) (parts : List Part) → HaveCarried sent left parts
    → (before : List Need) (this : Need) (after : List Need) → map need (sent ++ waiting) ≡ before ++ this ∷ after
    → (earlier : List Part) (here : Part) (fewer later : List Part) → parts ≡ earlier ++ here ∷ fewer
    → total_size before < length (part_bytes earlier) + length here.bytes
    → Enough before this earlier here fewer → Enough before this earlier here later
came_before sent waiting left parts c before this after e earlier here fewer later f high (inl q) = inl q
came_before sent waiting left parts c before this after e earlier here fewer later f high (inr none) =
    let bytes = ap (λ (l : List Part). length (part_bytes l)) f
    ∙ ap (λ (l : List ℕ). length l) (part_bytes_append earlier (here ∷ fewer))
    ∙ length-append (part_bytes earlier) (here.bytes ++ part_bytes fewer) in
    let tokens = ap (λ (l : List Part). length (part_tokens l)) f
    ∙ ap (λ (l : List ℕ). length l) (part_tokens_append earlier (here ∷ fewer))
    ∙ length-append (part_tokens earlier) (here.tokens ++ part_tokens fewer) in
    let sizes = ap (λ (l : List ℕ). length l) c.bytes in
    let within : total_size before < total_size (map need sent) =
    omega (
      arith,
      high,
      bytes,
      length-append here.bytes (part_bytes fewer),
      sizes,
      length-append
          (part_bytes parts) left,
      need_size sent,
    ) in
    let enough = among (map need sent) (map need waiting) before this after
    (sym (map-append need sent waiting) ∙ e) within in
    inl (omega (
      arith,
      enough,
      need_tokens sent,
      ap
          (λ (l : List ℕ). length l) c.tokens,
      tokens,
      length-append here.tokens (part_tokens fewer),
      ap
          (λ (l : List ℕ). length l) none,
    ))

keeps_at : (sent waiting : List QueuedMessage) (left : List ℕ) (parts : List Part) (more : Part)
    → HaveCarried sent left parts
    → InStep (map need (sent ++ waiting)) parts
    → (before : List Need) (this : Need) (after : List Need) → map need (sent ++ waiting) ≡ before ++ this ∷ after
    → (earlier : List Part) (here : Part) (later : List Part)
    → length (part_bytes earlier) ≤ total_size before
    → total_size before < length (part_bytes earlier) + length here.bytes
    → EndsWith parts more earlier here later → Enough before this earlier here later
keeps_at sent waiting left parts more c s before this after e earlier here later low high (inl none) =
    inr (ap (λ (l : List Part). part_tokens l) none)
keeps_at sent waiting left parts more c s before this after e earlier here later low high (inr split) =
    came_before sent waiting left parts c before this after e earlier here split.0 later split.2 high
    (s before this after e earlier here split.0 split.2 low high)

pub keeps_step : (sent waiting : List QueuedMessage) (left : List ℕ) (parts : List Part) (more : Part)
    → HaveCarried sent left parts
    → InStep (map need (sent ++ waiting)) parts → InStep (map need (sent ++ waiting)) (parts ++ more ∷ [])
keeps_step sent waiting left parts more c s before this after e earlier here later f low high =
    keeps_at sent waiting left parts more c s before this after e earlier here later low high
    (ends_with parts more earlier here later f)

-- what an outbox has given is in step, whatever messages follow
abbrev pub Tidy : List QueuedMessage → List Part → Outgoing → Type 0
Tidy sent parts o = HaveCarried sent o.left parts × ((waiting : List QueuedMessage)
    → InStep (map need (sent ++ waiting)) parts)

tidy : (sent : List QueuedMessage) (parts : List Part) (o : Outgoing) → Gave sent parts o → Tidy sent parts o
tidy sent parts o starts = (
  record { bytes = refl; tokens = refl },
  λ waiting before this after e earlier here later f low high. absurd (no_more earlier here later f),
)
tidy sent parts o (adds bytes tokens g) = tidy sent parts _ g
tidy sent parts o (adds_error bytes g) = tidy sent parts _ g
tidy sent parts o (takes {sent = ms} {parts = ps} {o = p} {b = b} {t = t} {taken = taken} goes g) =
    let h = tidy ms ps p g in (
      carried ms p ps b t taken goes h.0,
      λ waiting. subst (λ (l : List QueuedMessage). InStep (map need l) (ps ++ part_taken p taken ∷ []))
          (sym (append_assoc ms (newly_begun p taken.bytes) waiting))
          (keeps_step ms (newly_begun p taken.bytes ++ waiting) p.left ps (part_taken p taken) h.0
          (h.1 (newly_begun p taken.bytes ++ waiting))),
    )

pub gave_in_step : (sent : List QueuedMessage) (parts : List Part) (o : Outgoing) → Gave sent parts o
    → InStep (map need (sent ++ o.messages)) parts
gave_in_step sent parts o g = (tidy sent parts o g).1 o.messages

pub gave_all : (sent : List QueuedMessage) (parts : List Part) (o : Outgoing) → Gave sent parts o
    → HaveCarried sent o.left parts
gave_all sent parts o g = (tidy sent parts o g).0
