-- Bytes that leave an outbox in parts, without tokens.
use Rattle.std.proofs.Common.{◌≡◌, ℕ, zero, suc, ◌+◌, ◌-◌, ◌<◌, ◌≤◌, ◌⊎◌, inl, inr, List, [], ◌∷◌, ◌++◌, length, take}
use Rattle.std.proofs.Common.{drop, Option, Some, None, Err, refl, sym, ap, subst, ◌∙◌, arith, length-append}
use Rattle.std.proofs.Common.{length-drop, append_assoc}
use Rattle.std.specs.Io.KnownBytes.{Appends}
use Rattle.std.specs.List.{AllByRecursion}
use Rattle.std.proofs.lemmas.List.{length-take, append-nil, drop-append-le, drop-drop}
use Rattle.std.proofs.Math.Seq.{take-add}
use Rattle.std.proofs.KnownBytes.{Appends-trans}
use Rattle.wl_message.specs.declared.amounts.Amounts.{Amounts}
use Rattle.wl_message.specs.declared.streams.FlushError.TheVariants.{Io, NeedsTokens}
use Rattle.wl_message.specs.Outgoing.{QueuedMessage, Outgoing, all_bytes, all_tokens, begun, newly_begun}
use Rattle.wl_message.specs.Outgoing.{MayGo, Goes, goes, waiting_bytes, after_taking}
use Rattle.wl_message.specs.Boundaries.{StoredMessages, outgoing, AreStored}
use Rattle.wl_message.specs.Streams.{Flushes, FirstHasTokens, NextHasTokens}
use Rattle.wl_message.proofs.WhatGoes.{begun_none, begun_some, goes_goes}
use Rattle.wl_message.proofs.PartedQueue.{some_messages}
use Rattle.wl_message.proofs.TakenInStep.{passes, bytes_append, tokens_append}
use Rattle.wl_message.proofs.Steps.{side}

-- ---- two consecutive parts

begun_step : (m : QueuedMessage) (ms : List QueuedMessage) (n b : ℕ)
    → begun (suc n - length m.bytes + b) ms ≡ begun (suc n - length m.bytes) ms
    ++ begun (b - (length (all_bytes (begun (suc n - length m.bytes) ms)) - (suc n - length m.bytes)))
    (drop (length (begun (suc n - length m.bytes) ms)) ms)
    → length m.bytes ≤ suc n
    → begun (suc n + b - length m.bytes) ms ≡ begun (suc n - length m.bytes) ms
    ++ begun (b - (length (m.bytes ++ all_bytes (begun (suc n - length m.bytes) ms)) - suc n))
    (drop (length (begun (suc n - length m.bytes) ms)) ms)
begun_step m ms n b h le =
    let k : ℕ = suc n - length m.bytes in
    let p : suc n + b - length m.bytes ≡ k + b = omega (arith, le) in
    let q : length (all_bytes (begun k ms)) - k ≡ length (m.bytes ++ all_bytes (begun k ms)) - suc n =
    omega (arith, le, length-append m.bytes (all_bytes (begun k ms))) in
    ap (λ (i : ℕ). begun i ms) p ∙ h ∙ ap (λ (i : ℕ). begun k ms ++ begun (b - i) (drop (length (begun k ms)) ms)) q

begun_within : (m : QueuedMessage) (ms : List QueuedMessage) (n b : ℕ) → suc n < length m.bytes
    → begun (suc n + b - length m.bytes) ms ≡ begun (suc n - length m.bytes) ms
    ++ begun (b - (length (m.bytes ++ all_bytes (begun (suc n - length m.bytes) ms)) - suc n))
    (drop (length (begun (suc n - length m.bytes) ms)) ms)
begun_within m ms n b lt =
    let z : suc n - length m.bytes ≡ 0 = omega (arith, lt) in
    let none : begun (suc n - length m.bytes) ms ≡ [] = ap (λ (i : ℕ). begun i ms) z ∙ begun_none ms in
    let p : suc n + b - length m.bytes ≡ b - (length (m.bytes ++ all_bytes []) - suc n) =
    omega (arith, lt, length-append m.bytes []) in
    rw none (ap (λ (i : ℕ). begun i ms) p)

-- a + b bytes begin the messages that a bytes begin, and then those that b more bytes begin
begun_more : (a b : ℕ) (ms : List QueuedMessage) → begun (a + b) ms
    ≡ begun a ms ++ begun (b - (length (all_bytes (begun a ms)) - a)) (drop (length (begun a ms)) ms)
begun_more zero b [] = refl
begun_more zero b (m ∷ ms) = let p : 0 + b ≡ b - (0 - 0) = omega arith in ap (λ (i : ℕ). begun i (m ∷ ms)) p
begun_more (suc n) b [] = refl
begun_more (suc n) b (m ∷ ms) =
    begun_some m ms (suc n + b) (omega arith) ∙ ap (λ (l : List QueuedMessage). m ∷ l)
    (elim (side (suc n) (length m.bytes)) [
      | inl h ↦ begun_within m ms n b h
      | inr h ↦ begun_step m ms n b (begun_more (suc n - length m.bytes) b ms) h
    ])

pub newly_more : (o : Outgoing) (a b : ℕ) → newly_begun o (a + b) ≡ newly_begun o a ++ newly_begun (after_taking o a) b
newly_more o a b =
    let l : ℕ = length o.left in
    let begins = newly_begun o a in
    let ms = drop (length begins) o.messages in
    let left : length (drop a (o.left ++ all_bytes begins)) ≡ l + length (all_bytes begins) - a =
    length-drop a (o.left ++ all_bytes begins) ∙ ap (λ (i : ℕ). i - a) (length-append o.left (all_bytes begins)) in
    elim (side a l) [
      | inl h ↦ (
          let z : a - l ≡ 0 = omega (arith, h) in
          let none : begun (a - l) o.messages ≡ [] = ap (λ (i : ℕ). begun i o.messages) z ∙ begun_none o.messages in
          let p : a + b - l ≡ b - (l - a) = omega (arith, h) in
          let q : length (drop a (o.left ++ all_bytes [])) ≡ l - a =
          length-drop a (o.left ++ all_bytes [])
          ∙ ap (λ (i : ℕ). i - a) (ap (λ (xs : List ℕ). length xs) (append-nil o.left)) in
          rw none (ap (λ (i : ℕ). begun i o.messages) (p ∙ ap (λ (i : ℕ). b - i) (sym q)))
          )
      | inr h ↦ (
          let p : a + b - l ≡ a - l + b = omega (arith, h) in
          let q : length (all_bytes begins) - (a - l) ≡ length (drop a (o.left ++ all_bytes begins)) =
          omega (arith, h, left) in
          ap (λ (i : ℕ). begun i o.messages) p ∙ begun_more (a - l) b o.messages
          ∙ ap (λ (i : ℕ). begins ++ begun (b - i) ms) q
          )
    ]

-- if n bytes may go without tokens, all of them go
pub goes_all : (o : Outgoing) (n : ℕ) → MayGo o n 0 n → (goes o n 0).bytes ≡ n
goes_all o n may =
    let g = goes_goes o n 0 in
    omega (arith, g.longest n may, g.may.within)

all_goes : (o : Outgoing) (n : ℕ) → MayGo o n 0 n → Goes o n 0 (record { bytes = n; tokens = 0 })
all_goes o n may = record { may = may; longest = λ k m. m.within; with_tokens = omega (arith, may.tokens_within) }

-- after n bytes are gone, the rest is what waits
pub waiting_after : (o : Outgoing) (n : ℕ) → MayGo o n 0 n → waiting_bytes (after_taking o n) ≡ drop n (waiting_bytes o)
waiting_after o n may =
    let p = passes o n 0 (record { bytes = n; tokens = 0 }) (all_goes o n may) in
    let begins = newly_begun o n in
    let after = after_taking o n in
    let bytes : waiting_bytes o ≡ (o.left ++ all_bytes begins) ++ all_bytes after.messages =
    ap (λ (ms : List QueuedMessage). o.left ++ all_bytes ms) p.rest
    ∙ ap (λ (xs : List ℕ). o.left ++ xs) (bytes_append begins after.messages)
    ∙ sym (append_assoc o.left (all_bytes begins) (all_bytes after.messages)) in
    let len : length (take n (waiting_bytes o)) ≡ n = omega (arith, length-take n (waiting_bytes o), may.there) in
    let within : n ≤ length (o.left ++ all_bytes begins) =
    let e = ap (λ (xs : List ℕ). length xs) p.gone
    in omega (arith, e, len, length-append (take n (waiting_bytes o)) after.left) in
    sym (ap (drop n) bytes ∙ drop-append-le n (o.left ++ all_bytes begins) (all_bytes after.messages) within)

-- taking two parts is the same as taking both at once
pub after_more : (o : Outgoing) (a b : ℕ) → MayGo o a 0 a → after_taking (after_taking o a) b ≡ after_taking o (a + b)
after_more o a b may =
    let p = passes o a 0 (record { bytes = a; tokens = 0 }) (all_goes o a may) in
    let first = newly_begun o a in
    let second = newly_begun (after_taking o a) b in
    let both = newly_more o a b in
    let len : length (take a (waiting_bytes o)) ≡ a = omega (arith, length-take a (waiting_bytes o), may.there) in
    let within : a ≤ length (o.left ++ all_bytes first) =
    let e = ap (λ (xs : List ℕ). length xs) p.gone
    in omega (arith, e, len, length-append (take a (waiting_bytes o)) (after_taking o a).left) in
    let left : drop b (drop a (o.left ++ all_bytes first) ++ all_bytes second)
    ≡ drop (a + b) (o.left ++ all_bytes (newly_begun o (a + b))) =
    ap (drop b) (sym (drop-append-le a (o.left ++ all_bytes first) (all_bytes second) within))
    ∙ drop-drop b a ((o.left ++ all_bytes first) ++ all_bytes second)
    ∙ ap (drop (a + b)) (append_assoc o.left (all_bytes first) (all_bytes second)
    ∙ ap (λ (xs : List ℕ). o.left ++ xs) (sym (bytes_append first second))
    ∙ ap (λ (ms : List QueuedMessage). o.left ++ all_bytes ms) (sym both)) in
    let count : length first + length second ≡ length (newly_begun o (a + b)) =
    sym (ap (λ (ms : List QueuedMessage). length ms) both ∙ length-append first second) in
    let messages : drop (length second) (drop (length first) o.messages)
    ≡ drop (length (newly_begun o (a + b))) o.messages =
    drop-drop (length second) (length first) o.messages ∙ ap (λ (i : ℕ). drop i o.messages) count in
    let from : o.error_from - a - b ≡ o.error_from - (a + b) = omega arith in
    let to : o.error_to - a - b ≡ o.error_to - (a + b) = omega arith in
    λ d. record {
      left = left d;
      messages = messages d;
      capacity = o.capacity;
      token_capacity = o.token_capacity;
      limit = o.limit;
      has_error = o.has_error;
      error_from = from d;
      error_to = to d;
    }

-- ---- a part of the bytes that may go

tokens_part : (o : Outgoing) (a b : ℕ) → length (all_tokens (newly_begun o (a + b)))
    ≡ length (all_tokens (newly_begun o a)) + length (all_tokens (newly_begun (after_taking o a) b))
tokens_part o a b =
    let first = newly_begun o a in
    let second = newly_begun (after_taking o a) b in
    ap (λ (ms : List QueuedMessage). length (all_tokens ms)) (newly_more o a b)
    ∙ ap (λ (xs : List ℕ). length xs) (tokens_append first second)
    ∙ length-append (all_tokens first) (all_tokens second)

pub may_first : (o : Outgoing) (total w : ℕ) → MayGo o total 0 total → w ≤ total → MayGo o w 0 w
may_first o total w may h =
    let e : w + (total - w) ≡ total = omega (arith, h) in
    let t = ap (λ (i : ℕ). length (all_tokens (newly_begun o i))) e in
    record {
      there = omega (arith, may.there, h);
      within = omega arith;
      tokens_within = omega (arith, t, tokens_part o w (total - w), may.tokens_within);
    }

pub may_more : (o : Outgoing) (total w n : ℕ) → MayGo o total 0 total → w + n ≤ total → MayGo (after_taking o w) n 0 n
may_more o total w n may h =
    let m = may_first o total (w + n) may h in
    let first = may_first o total w may (omega (arith, h)) in
    let len = ap (λ (xs : List ℕ). length xs) (waiting_after o w first) in
    record {
      there = omega (arith, m.there, len, length-drop w (waiting_bytes o));
      within = omega arith;
      tokens_within = omega (arith, m.tokens_within, tokens_part o w n);
    }

-- ---- where it stops

begins_tokens : (n : ℕ) (ms : List QueuedMessage) → 0 < n → FirstHasTokens ms → length (all_tokens (begun n ms)) ≤ 0 → ⊥
begins_tokens n [] h f g = f
begins_tokens zero (m ∷ ms) h f g = absurd (omega (arith, h))
begins_tokens (suc n) (m ∷ ms) h f g = omega (
  arith,
  f,
  g,
  length-append m.tokens
      (all_tokens (begun (suc n - length m.bytes) ms)),
)

-- until everything that may go is gone, the next message needs no token
pub not_before : (o : Outgoing) (total w : ℕ) → MayGo o total 0 total → w < total → NextHasTokens (after_taking o w) → ⊥
not_before o total w may h next =
    let after = after_taking o w in
    let m = may_more o total w (total - w) may (omega (arith, h)) in
    let z = ap (λ (xs : List ℕ). length xs) next.0 in
    begins_tokens (total - w - length after.left) after.messages (omega (arith, h, z)) next.1 m.tokens_within

some_drop : (n : ℕ) (ms : List QueuedMessage) → AllByRecursion (λ (m : QueuedMessage). 0 < length m.bytes) ms
    → AllByRecursion (λ (m : QueuedMessage). 0 < length m.bytes) (drop n ms)
some_drop zero ms h = h
some_drop (suc n) [] h = tt
some_drop (suc n) (m ∷ ms) h = some_drop n ms h.1

-- one byte begins one message
begun_one : (m : QueuedMessage) (ms : List QueuedMessage) → 0 < length m.bytes → begun 1 (m ∷ ms) ≡ m ∷ []
begun_one m ms h =
    let z : 1 - length m.bytes ≡ 0 = omega (arith, h) in
    ap (λ (i : ℕ). m ∷ begun i ms) z ∙ ap (λ (l : List QueuedMessage). m ∷ l) (begun_none ms)

-- what waits once nothing more may go without a token
rest_waits : (left : List ℕ) (ms : List QueuedMessage) → AllByRecursion (λ (m : QueuedMessage). 0 < length m.bytes) ms
    → (0 < length (left ++ all_bytes ms) → 0 < length (all_tokens (begun (1 - length left) ms)))
    → (left ++ all_bytes ms ≡ []) ⊎ ((left ≡ []) × FirstHasTokens ms)
rest_waits [] [] some more = inl refl
rest_waits [] (m ∷ ms) some more =
    let t = more (omega (arith, some.0, length-append m.bytes (all_bytes ms))) in
    let one = ap (λ (l : List QueuedMessage). length (all_tokens l)) (begun_one m ms some.0)
    ∙ ap (λ (xs : List ℕ). length xs) (append-nil m.tokens) in
    inr (refl, omega (arith, t, one))
rest_waits (b ∷ left) ms some more =
    let t = more (omega arith) in
    let z : 1 - length (b ∷ left) ≡ 0 = omega arith in
    let none = ap (λ (i : ℕ). length (all_tokens (begun i ms))) z
    ∙ ap (λ (l : List QueuedMessage). length (all_tokens l)) (begun_none ms) in
    absurd (omega (arith, t, none))

-- once everything that may go is gone, nothing waits or the next message has tokens
pub stops : (h : StoredMessages) (o : Outgoing) (taken : Amounts) → AreStored h → outgoing h ≡ o
    → Goes o (length (waiting_bytes o)) 0 taken
    → (waiting_bytes (after_taking o taken.bytes) ≡ []) ⊎ NextHasTokens (after_taking o taken.bytes)
stops h o taken i e g =
    let n : ℕ = taken.bytes in
    let after = after_taking o n in
    let some : AllByRecursion (λ (m : QueuedMessage). 0 < length m.bytes) o.messages =
    subst (λ (p : Outgoing). AllByRecursion (λ (m : QueuedMessage). 0 < length m.bytes) p.messages) e
    (some_messages h i) in
    let may : MayGo o n 0 n = record { there = g.may.there; within = omega arith; tokens_within = g.may.tokens_within }
    in
    let len = ap (λ (xs : List ℕ). length xs) (waiting_after o n may) in
    rest_waits after.left after.messages (some_drop (length (newly_begun o n)) o.messages some)
    (λ more. elim (side 0 (length (all_tokens (newly_begun after 1)))) [
      | inl t ↦ t
      | inr none ↦ (
          let there : n + 1 ≤ length (waiting_bytes o) = omega (arith, more, len, length-drop n (waiting_bytes o)) in
          let l = g.longest (n + 1) (record {
            there = there;
            within = there;
            tokens_within = omega (arith, tokens_part o n 1, none, g.may.tokens_within);
          }) in
          absurd (omega (arith, l))
          )
    ])

pub is_may : (o : Outgoing) (taken : Amounts) → Goes o (length (waiting_bytes o)) 0 taken
    → MayGo o taken.bytes 0 taken.bytes
is_may o taken g = record { there = g.may.there; within = omega arith; tokens_within = g.may.tokens_within }

-- ---- the result of a flush

no_tokens : (xs : List ℕ) → length xs ≤ 0 → xs ≡ []
no_tokens [] h = refl
no_tokens (x ∷ xs) h = absurd (omega (arith, h))

abbrev pub Written : Outgoing → Option (List ℕ) → ℕ → Outgoing → Option (List ℕ) → Type 0
Written o held w o' holds = (o' ≡ after_taking o w) × Appends held holds (take w (waiting_bytes o))

-- a write failed
pub failed : (o : Outgoing) (held : Option (List ℕ)) (total w : ℕ) (o' : Outgoing) (holds : Option (List ℕ))
    → MayGo o total 0 total → w < total
    → Written o held w o' holds → Flushes o held (Err (Io w)) o' holds
failed o held total w o' holds may h written =
    let m = may_first o total w may (omega (arith, h)) in
    let e = written.0 in
    let len = ap (λ (xs : List ℕ). length xs) (ap (λ (p : Outgoing). waiting_bytes p) e ∙ waiting_after o w m) in
    record {
      there = m.there;
      written = written.1;
      gone = e;
      without_tokens = no_tokens _ m.tokens_within;
      all = (
        (λ f. absurd (cc f)),
        λ z. absurd (let q = ap (λ (xs : List ℕ). length xs) z
            in omega (arith, q, len, length-drop w (waiting_bytes o), may.there, h)),
      );
      needs_tokens = (
        (λ (f : ⊥). absurd f),
        λ next. absurd
            (not_before o total w may h (subst (λ (p : Outgoing). NextHasTokens p) e next)),
      );
    }

pub needs : (o : Outgoing) (held : Option (List ℕ)) (w : ℕ) (o' : Outgoing) (holds : Option (List ℕ)) → MayGo o w 0 w
    → Written o held w o' holds → (waiting_bytes o' ≡ [] → ⊥) → (waiting_bytes o' ≡ []) ⊎ NextHasTokens o'
    → Flushes o held (Err (NeedsTokens w)) o' holds
needs o held w o' holds may written some rest = record {
  there = may.there;
  written = written.1;
  gone = written.0;
  without_tokens = no_tokens _ may.tokens_within;
  all = ((λ f. absurd (cc f)), λ z. absurd (some z));
  needs_tokens = ((λ t. elim rest [ inl z ↦ absurd (some z) | inr n ↦ n ]), λ next. tt);
}

-- ---- what several writes append

pub appends_more : (a b c : Option (List ℕ)) (xs : List ℕ) (w n : ℕ) → Appends a b (take w xs)
    → Appends b c (take n (drop w xs)) → Appends a c (take (w + n) xs)
appends_more a b c xs w n p q =
    subst (Appends a c) (sym (take-add w n xs)) (Appends-trans a b c (take w xs) (take n (drop w xs)) p q)

pub appends_none : (a b c : Option (List ℕ)) (xs : List ℕ) → Appends a b xs → Appends b c [] → Appends a c xs
appends_none a b c xs p q = subst (Appends a c) (append-nil xs) (Appends-trans a b c xs [] p q)

-- a prefix of a prefix
pub take_of_front : (n : ℕ) (part xs : List ℕ) → part ≡ take (length part) xs → n ≤ length part
    → take n part ≡ take n xs
take_of_front n [] xs e h = let z : n ≡ 0 = omega (arith, h) in rw z refl
take_of_front zero (p ∷ part) xs e h = refl
take_of_front (suc n) (p ∷ part) [] e h = absurd cc
take_of_front (suc n) (p ∷ part) (x ∷ xs) e h =
    let head : p ≡ x = cc in
    let tail : part ≡ take (length part) xs = cc in
    let rest = take_of_front n part xs tail (omega (arith, h)) in
    rw (head, rest) refl

-- ---- before the first part

pub after_none : (o : Outgoing) → o ≡ after_taking o 0
after_none o =
    let none : newly_begun o 0 ≡ [] = let z : 0 - length o.left ≡ 0 = omega arith
    in ap (λ (i : ℕ). begun i o.messages) z ∙ begun_none o.messages in
    let left : o.left ≡ o.left ++ all_bytes (newly_begun o 0) =
    sym (ap (λ (ms : List QueuedMessage). o.left ++ all_bytes ms) none ∙ append-nil o.left) in
    let messages : o.messages ≡ drop (length (newly_begun o 0)) o.messages =
    sym (ap (λ (ms : List QueuedMessage). drop (length ms) o.messages) none) in
    let from : o.error_from ≡ o.error_from - 0 = omega arith in
    let to : o.error_to ≡ o.error_to - 0 = omega arith in
    λ d. record {
      left = left d;
      messages = messages d;
      capacity = o.capacity;
      token_capacity = o.token_capacity;
      limit = o.limit;
      has_error = o.has_error;
      error_from = from d;
      error_to = to d;
    }

pub appends_nothing : (a : Option (List ℕ)) → Appends a a []
appends_nothing None = tt
appends_nothing (Some a) = sym (append-nil a)
