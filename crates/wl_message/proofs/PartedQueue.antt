-- The lists in an outbox, split into messages.
use Rattle.std.proofs.Common.{◌≡◌, ℕ, zero, suc, ◌+◌, ◌-◌, ◌*◌, ◌<◌, ◌≤◌, min, true, false, List}
use Rattle.std.proofs.Common.{[], ◌∷◌, ◌++◌, length, take, drop, refl, sym, ap, subst, ◌∙◌, arith}
use Rattle.std.proofs.Common.{length-append, length-drop}
use Rattle.std.specs.List.{AllByRecursion}
use Rattle.std.proofs.lemmas.List.{length-take, append-nil, take-append-drop, take-append-le}
use Rattle.std.proofs.lemmas.List.{drop-append-le, drop-drop, drop-take, take_all}
use Rattle.std.proofs.Math.Seq.{take-add}
use Rattle.wl_message.specs.declared.boundaries.Leaving.{Leaving}
use Rattle.wl_message.specs.declared.boundaries.Boundary.{Boundary}
use Rattle.wl_message.specs.declared.boundaries.Reach.{Reach}
use Rattle.wl_message.specs.Outgoing.{QueuedMessage, queued, Outgoing, all_bytes, all_tokens, begun}
use Rattle.wl_message.specs.Outgoing.{newly_begun, going_bytes, goes, waiting_bytes, waiting_tokens}
use Rattle.wl_message.specs.Outgoing.{with_message, with_error, after_taking}
use Rattle.wl_message.specs.Boundaries.{reach, parted, lens, token_counts, StoredMessages, outgoing, AreStored, IsLeaving}
use Rattle.wl_message.proofs.WhatGoes.{begun_front, boundaries_of, goes_goes, goes_one, reaches}
use Rattle.wl_message.proofs.WhatGoes.{ReachesRoom}

-- ---- boundaries

pub lens-append : (ks : List Boundary) (k : Boundary) → lens (ks ++ k ∷ []) ≡ lens ks + k.len
lens-append [] k = omega arith
lens-append (j ∷ ks) k = omega (arith, lens-append ks k)

pub token_counts-append : (ks : List Boundary) (k : Boundary) → token_counts (ks ++ k ∷ []) ≡ token_counts ks + k.tokens
token_counts-append [] k = omega arith
token_counts-append (j ∷ ks) k = omega (arith, token_counts-append ks k)

pub each-append : (ks : List Boundary) (k : Boundary) → AllByRecursion (λ (i : Boundary). 8 ≤ i.len) ks → 8 ≤ k.len
    → AllByRecursion (λ (i : Boundary). 8 ≤ i.len) (ks ++ k ∷ [])
each-append [] k h p = (p, tt)
each-append (j ∷ ks) k h p = (h.0, each-append ks k h.1 p)

pub each-drop : (n : ℕ) (ks : List Boundary) → AllByRecursion (λ (i : Boundary). 8 ≤ i.len) ks
    → AllByRecursion (λ (i : Boundary). 8 ≤ i.len) (drop n ks)
each-drop zero ks h = h
each-drop (suc n) [] h = tt
each-drop (suc n) (k ∷ ks) h = each-drop n ks h.1

-- there are at most an eighth as many boundaries as bytes
pub boundaries_fit : (ks : List Boundary) → AllByRecursion (λ (i : Boundary). 8 ≤ i.len) ks → 8 * length ks ≤ lens ks
boundaries_fit [] h = omega arith
boundaries_fit (k ∷ ks) h = omega (arith, boundaries_fit ks h.1, h.0)

lens-parts : (n : ℕ) (ks : List Boundary) → lens (take n ks) + lens (drop n ks) ≡ lens ks
lens-parts zero ks = omega arith
lens-parts (suc n) [] = omega arith
lens-parts (suc n) (k ∷ ks) = omega (arith, lens-parts n ks)

counts-parts : (n : ℕ) (ks : List Boundary) → token_counts (take n ks) + token_counts (drop n ks) ≡ token_counts ks
counts-parts zero ks = omega arith
counts-parts (suc n) [] = omega arith
counts-parts (suc n) (k ∷ ks) = omega (arith, counts-parts n ks)

-- ---- messages

-- the boundaries have these numbers of bytes and tokens in all
pub record Parts (ks : List Boundary) (bs ts : List ℕ) : Type 0 where
  pub bytes : lens ks ≡ length bs
  pub tokens : token_counts ks ≡ length ts

parts_tail : (k : Boundary) (ks : List Boundary) (bs ts : List ℕ) → Parts (k ∷ ks) bs ts
    → Parts ks (drop k.len bs) (drop k.tokens ts)
parts_tail k ks bs ts h = record {
  bytes = omega (arith, h.bytes, length-drop k.len bs);
  tokens = omega (arith, h.tokens, length-drop k.tokens ts);
}

empty : (xs : List ℕ) → 0 ≡ length xs → xs ≡ []
empty [] h = refl
empty (x ∷ xs) h = absurd (omega arith)

pub bytes-parted : (ks : List Boundary) (bs ts : List ℕ) → Parts ks bs ts → all_bytes (parted ks bs ts) ≡ bs
bytes-parted [] bs ts h = sym (empty bs h.bytes)
bytes-parted (k ∷ ks) bs ts h =
    ap (λ (x : List ℕ). take k.len bs ++ x) (bytes-parted ks _ _ (parts_tail k ks bs ts h)) ∙ take-append-drop k.len bs

pub tokens-parted : (ks : List Boundary) (bs ts : List ℕ) → Parts ks bs ts → all_tokens (parted ks bs ts) ≡ ts
tokens-parted [] bs ts h = sym (empty ts h.tokens)
tokens-parted (k ∷ ks) bs ts h =
    ap (λ (x : List ℕ). take k.tokens ts ++ x) (tokens-parted ks _ _ (parts_tail k ks bs ts h))
    ∙ take-append-drop k.tokens ts

-- the boundaries are those of the messages
boundaries-parted : (ks : List Boundary) (bs ts : List ℕ) → Parts ks bs ts → boundaries_of (parted ks bs ts) ≡ ks
boundaries-parted [] bs ts h = refl
boundaries-parted (k ∷ ks) bs ts h =
    let p : length (take k.len bs) ≡ k.len = omega (arith, length-take k.len bs, h.bytes) in
    let q : length (take k.tokens ts) ≡ k.tokens = omega (arith, length-take k.tokens ts, h.tokens) in
    let r = boundaries-parted ks _ _ (parts_tail k ks bs ts h) in
    λ i. record { len = p i; tokens = q i } ∷ r i

some-parted : (ks : List Boundary) (bs ts : List ℕ) → Parts ks bs ts → AllByRecursion (λ (i : Boundary). 8 ≤ i.len) ks
    → AllByRecursion (λ (m : QueuedMessage). 0 < length m.bytes) (parted ks bs ts)
some-parted [] bs ts h e = tt
some-parted (k ∷ ks) bs ts h e = (
  omega (arith, length-take k.len bs, h.bytes, e.0),
  some-parted ks _ _
      (parts_tail k ks bs ts h) e.1,
)

-- each message of an outbox has bytes
pub some_messages : (h : StoredMessages) → AreStored h → AllByRecursion (λ (m : QueuedMessage). 0 < length m.bytes)
    (outgoing h).messages
some_messages h i = some-parted h.boundaries _ _ (record {
  bytes = omega (arith, i.bytes, length-drop h.left h.bytes);
  tokens = i.tokens;
}) i.each

length-parted : (ks : List Boundary) (bs ts : List ℕ) → length (parted ks bs ts) ≡ length ks
length-parted [] bs ts = refl
length-parted (k ∷ ks) bs ts = ap suc (length-parted ks _ _)

-- one more message at the end
pub parted-append : (ks : List Boundary) (bs ts m t : List ℕ) → Parts ks bs ts
    → parted (ks ++ record { len = length m; tokens = length t } ∷ []) (bs ++ m) (ts ++ t)
    ≡ parted ks bs ts ++ queued m t ∷ []
parted-append [] bs ts m t h =
    rw (empty bs h.bytes, empty ts h.tokens) (λ i. queued (take_all (length m) m (omega arith) i)
    (take_all (length t) t (omega arith) i) ∷ [])
parted-append (k ∷ ks) bs ts m t h =
    let rest = parted-append ks (drop k.len bs) (drop k.tokens ts) m t (parts_tail k ks bs ts h) in
    let p : k.len ≤ length bs = omega (arith, h.bytes) in
    let q : k.tokens ≤ length ts = omega (arith, h.tokens) in
    rw (
      take-append-le k.len bs m p,
      drop-append-le k.len bs m p,
      take-append-le k.tokens ts t q,
      drop-append-le
          k.tokens ts t q,
      rest,
    ) refl

-- the first n messages, and the others
pub record Split (n : ℕ) (ks : List Boundary) (bs ts : List ℕ) : Type 0 where
  pub bytes : all_bytes (take n (parted ks bs ts)) ≡ take (lens (take n ks)) bs
  pub tokens : all_tokens (take n (parted ks bs ts)) ≡ take (token_counts (take n ks)) ts
  pub others : drop n (parted ks bs ts) ≡ parted (drop n ks) (drop (lens (take n ks)) bs)
      (drop (token_counts (take n ks)) ts)

split : (n : ℕ) (ks : List Boundary) (bs ts : List ℕ) → Parts ks bs ts → Split n ks bs ts
split zero ks bs ts h = record { bytes = refl; tokens = refl; others = refl }
split (suc n) [] bs ts h = record { bytes = refl; tokens = refl; others = refl }
split (suc n) (k ∷ ks) bs ts h =
    let s = split n ks (drop k.len bs) (drop k.tokens ts) (parts_tail k ks bs ts h) in
    record {
      bytes = ap (λ (l : List ℕ). take k.len bs ++ l) s.bytes ∙ sym (take-add k.len (lens (take n ks)) bs);
      tokens = ap (λ (l : List ℕ). take k.tokens ts ++ l) s.tokens
          ∙ sym (take-add k.tokens (token_counts (take n ks)) ts);
      others = s.others ∙ (λ i. parted (drop n ks) (drop-drop (lens (take n ks)) k.len bs i)
          (drop-drop (token_counts (take n ks)) k.tokens ts i));
    }

-- ---- an outbox

kept_parts : (h : StoredMessages) → AreStored h → Parts h.boundaries (drop h.left h.bytes) h.tokens
kept_parts h i = record { bytes = omega (arith, i.bytes, length-drop h.left h.bytes); tokens = i.tokens }

pub bytes_wait : (h : StoredMessages) → AreStored h → waiting_bytes (outgoing h) ≡ h.bytes
bytes_wait h i =
    ap (λ (x : List ℕ). take h.left h.bytes ++ x) (bytes-parted h.boundaries _ _ (kept_parts h i))
    ∙ take-append-drop h.left h.bytes

pub tokens_wait : (h : StoredMessages) → AreStored h → waiting_tokens (outgoing h) ≡ h.tokens
tokens_wait h i = tokens-parted h.boundaries _ _ (kept_parts h i)

pub left_len : (h : StoredMessages) → AreStored h → length (take h.left h.bytes) ≡ h.left
left_len h i = omega (arith, i.bytes, length-take h.left h.bytes)

-- an outbox with one more message
abbrev pub kept_with : StoredMessages → List ℕ → List ℕ → StoredMessages
kept_with h m t = record h {
  bytes = h.bytes ++ m;
  tokens = h.tokens ++ t;
  boundaries = h.boundaries ++ record { len = length m; tokens = length t } ∷ [];
}

same_left : (h : StoredMessages) (m : List ℕ) → AreStored h → take h.left (h.bytes ++ m) ≡ take h.left h.bytes
same_left h m i = let p : h.left ≤ length h.bytes = omega (arith, i.bytes) in take-append-le h.left h.bytes m p

more_behind : (h : StoredMessages) (m t : List ℕ) → AreStored h
    → parted (h.boundaries ++ record { len = length m; tokens = length t } ∷ []) (drop h.left (h.bytes ++ m)) (h.tokens ++ t)
    ≡ parted h.boundaries (drop h.left h.bytes) h.tokens ++ queued m t ∷ []
more_behind h m t i =
    let p : h.left ≤ length h.bytes = omega (arith, i.bytes) in
    rw (drop-append-le h.left h.bytes m p) (parted-append h.boundaries (drop h.left h.bytes) h.tokens m t (kept_parts h i))

pub pushed : (h : StoredMessages) (m t : List ℕ) → AreStored h → outgoing (kept_with h m t) ≡ with_message (outgoing h) m t
pushed h m t i = λ d. record {
  left = same_left h m i d;
  messages = more_behind h m t i d;
  capacity = h.capacity;
  token_capacity = h.token_capacity;
  limit = h.limit;
  has_error = h.has_error;
  error_from = h.error_from;
  error_to = h.error_to;
}

pub pushed_kept : (h : StoredMessages) (m t : List ℕ) → AreStored h → 8 ≤ length m
    → length h.bytes + length m + h.error_from ≤ h.capacity + h.error_to → length h.tokens + length t ≤ h.token_capacity
    → AreStored (kept_with h m t)
pushed_kept h m t i low room token_room = record {
  bytes = omega (
    arith,
    i.bytes,
    lens-append h.boundaries
        (record { len = length m; tokens = length t }),
    length-append h.bytes m,
  );
  tokens = omega (
    arith,
    i.tokens,
    token_counts-append h.boundaries
        (record { len = length m; tokens = length t }),
    length-append h.tokens t,
  );
  each = each-append h.boundaries (record { len = length m; tokens = length t }) i.each low;
  room = omega (arith, room, length-append h.bytes m);
  token_room = omega (arith, token_room, length-append h.tokens t);
  error_order = i.error_order;
  error_there = omega (arith, i.error_there, length-append h.bytes m);
  error_len = i.error_len;
  no_error = i.no_error;
}

-- an outbox with the error event
abbrev pub kept_with_error : StoredMessages → List ℕ → StoredMessages
kept_with_error h m = record h {
  bytes = h.bytes ++ m;
  boundaries = h.boundaries ++ record { len = length m; tokens = 0 } ∷ [];
  has_error = true;
  error_from = length h.bytes;
  error_to = length h.bytes + length m;
}

pub pushed_error : (h : StoredMessages) (m : List ℕ) → AreStored h → outgoing (kept_with_error h m) ≡ with_error (outgoing h) m
pushed_error h m i =
    let w : length h.bytes ≡ length (waiting_bytes (outgoing h)) =
    ap (λ (l : List ℕ). length l) (sym (bytes_wait h i)) in
    let e = subst (λ (l : List ℕ). parted (h.boundaries ++ record { len = length m; tokens = 0 } ∷ [])
    (drop h.left (h.bytes ++ m)) l ≡ parted h.boundaries (drop h.left h.bytes) h.tokens ++ queued m [] ∷ [])
    (append-nil h.tokens) (more_behind h m [] i) in
    λ d. record {
      left = same_left h m i d;
      messages = e d;
      capacity = h.capacity;
      token_capacity = h.token_capacity;
      limit = h.limit;
      has_error = true;
      error_from = w d;
      error_to = w d + length m;
    }

pub error_kept : (h : StoredMessages) (m : List ℕ) → AreStored h → h.has_error ≡ false → 8 ≤ length m → length m ≤ 148
    → AreStored (kept_with_error h m)
error_kept h m i first low high =
    let z = i.no_error first in
    record {
      bytes = omega (
        arith,
        i.bytes,
        lens-append h.boundaries
            (record { len = length m; tokens = 0 }),
        length-append h.bytes m,
      );
      tokens = omega (arith, i.tokens, token_counts-append h.boundaries (record { len = length m; tokens = 0 }));
      each = each-append h.boundaries (record { len = length m; tokens = 0 }) i.each low;
      room = omega (arith, i.room, z, i.error_order, length-append h.bytes m);
      token_room = i.token_room;
      error_order = omega arith;
      error_there = omega (arith, length-append h.bytes m);
      error_len = omega (arith, high);
      no_error = λ e. absurd (cc e);
    }

-- ---- what goes

pub reaches_kept : (h : StoredMessages) (b t first : ℕ) (r : Reach) → AreStored h → first ≡ min b h.left
    → r ≡ reach (b - first) t 0 h.boundaries
    → ReachesRoom (outgoing h) b t (record {
      bytes = r.bytes;
      tokens = r.tokens;
      begun = r.begun;
      left = h.left - first + r.left;
    })
reaches_kept h b t first r i f e =
    let p = kept_parts h i in
    let l = left_len h i in
    let m = boundaries-parted h.boundaries _ _ p in
    let f' : first ≡ min b (length (take h.left h.bytes)) = f ∙ ap (min b) (sym l) in
    let e' : r ≡ reach (b - min b (length (take h.left h.bytes))) t 0
    (boundaries_of (parted h.boundaries (drop h.left h.bytes) h.tokens)) =
    e ∙ (λ d. reach (b - f' d) t 0 (sym m d)) in
    let g = reaches (outgoing h) b t r (some-parted h.boundaries _ _ p i.each) e' in
    subst (λ (n : ℕ). ReachesRoom (outgoing h) b t (record {
      bytes = r.bytes;
      tokens = r.tokens;
      begun = r.begun;
      left = n + r.left;
    }))
    (λ d. l d - sym f' d) g

-- what leaves, computed from how far the messages that are not begun reach into the room
abbrev pub leaving : StoredMessages → ℕ → ℕ → ℕ → Reach → Leaving
leaving h b t first r = record {
  taken = record { bytes = b - r.bytes; tokens = t - r.tokens };
  begun = r.begun;
  left = h.left - first + r.left;
}

-- this is what goes
pub record GoesOut (o : Outgoing) (b t : ℕ) (l : Leaving) : Type 0 where
  pub taken : l.taken ≡ goes o b t
  pub leaving : IsLeaving o l

pub goes_out : (h : StoredMessages) (b t first : ℕ) (r : Reach) → AreStored h → first ≡ min b h.left
    → r ≡ reach (b - first) t 0 h.boundaries → GoesOut (outgoing h) b t (leaving h b t first r)
unfolding goes
goes_out h b t first r i f e =
    let o = outgoing h in
    let g = reaches_kept h b t first r i f e in
    let n_is : b - r.bytes ≡ going_bytes o b t = omega (arith, g.bytes) in
    let tokens_is : t - r.tokens ≡ length (all_tokens (newly_begun o (going_bytes o b t))) = omega (arith, g.tokens) in
    record {
      taken = λ d. record { bytes = n_is d; tokens = tokens_is d };
      leaving = record {
        there = subst (λ (n : ℕ). n ≤ length (waiting_bytes o)) (sym n_is) (goes_goes o b t).may.there;
        tokens = tokens_is ∙ ap (λ (n : ℕ). length (all_tokens (newly_begun o n))) (sym n_is);
        begun = g.begun ∙ ap (λ (n : ℕ). length (newly_begun o n)) (sym n_is);
        left = subst (λ (n : ℕ). h.left - first + r.left + n ≡ length (o.left ++ all_bytes (newly_begun o n)))
            (sym n_is) g.left;
      };
    }

-- if there is room for all that waits, all goes
abbrev pub all_leaving : StoredMessages → Leaving
all_leaving h = record {
  taken = record { bytes = length h.bytes; tokens = length h.tokens };
  begun = length h.boundaries;
  left = 0;
}

all_begun : (n : ℕ) (ms : List QueuedMessage) → AllByRecursion (λ (m : QueuedMessage). 0 < length m.bytes) ms
    → length (all_bytes ms) ≤ n → begun n ms ≡ ms
all_begun n [] h e = refl
all_begun zero (m ∷ ms) h e = absurd (omega (arith, h.0, length-append m.bytes (all_bytes ms), e))
all_begun (suc n) (m ∷ ms) h e = ap (λ (r : List QueuedMessage). m ∷ r)
    (all_begun (suc n - length m.bytes) ms h.1 (omega (arith, length-append m.bytes (all_bytes ms), e)))

pub all_leaves : (h : StoredMessages) → AreStored h → IsLeaving (outgoing h) (all_leaving h)
all_leaves h i =
    let o = outgoing h in
    let whole = ap (λ (l : List ℕ). length l) (bytes_wait h i) in
    let e : newly_begun o (length h.bytes) ≡ o.messages =
    all_begun _ o.messages (some_messages h i) (omega (arith, length-append o.left (all_bytes o.messages), whole)) in
    record {
      there = omega (arith, whole);
      tokens = sym (ap (λ (l : List QueuedMessage). length (all_tokens l)) e
          ∙ ap (λ (l : List ℕ). length l) (tokens_wait h i));
      begun = sym (ap (λ (l : List QueuedMessage). length l) e
          ∙ length-parted h.boundaries (drop h.left h.bytes) h.tokens);
      left = omega (arith, ap (λ (l : List QueuedMessage). length (o.left ++ all_bytes l)) e, whole);
    }

pub all_goes : (h : StoredMessages) (b t : ℕ) → AreStored h → length (waiting_bytes (outgoing h)) ≤ b
    → length (waiting_tokens (outgoing h)) ≤ t → (all_leaving h).taken ≡ goes (outgoing h) b t
all_goes h b t i p q =
    let l = all_leaves h i in
    let whole = ap (λ (w : List ℕ). length w) (bytes_wait h i) in
    let wait = ap (λ (w : List ℕ). length w) (tokens_wait h i) in
    goes_one (outgoing h) b t (all_leaving h).taken (record {
      may = record {
        there = l.there;
        within = omega (arith, whole, p);
        tokens_within = omega (arith, l.tokens, wait, q);
      };
      longest = λ n may. let there = may.there in omega (arith, there, whole);
      with_tokens = l.tokens;
    })

-- the outbox after n bytes and k tokens are gone
abbrev pub kept_after : StoredMessages → ℕ → ℕ → ℕ → ℕ → StoredMessages
kept_after h n k begun left = record h {
  bytes = drop n h.bytes;
  tokens = drop k h.tokens;
  boundaries = drop begun h.boundaries;
  left = left;
  error_from = h.error_from - n;
  error_to = h.error_to - n;
}

-- how much leaves, and what is left after it
pub record Leaves (h : StoredMessages) (l : Leaving) : Type 0 where
  pub bytes : l.taken.bytes ≤ length h.bytes
  pub tokens : l.taken.tokens ≤ length h.tokens
  pub boundaries : l.begun ≤ length h.boundaries
  pub after : outgoing (kept_after h l.taken.bytes l.taken.tokens l.begun l.left)
      ≡ after_taking (outgoing h) l.taken.bytes
  pub kept : AreStored (kept_after h l.taken.bytes l.taken.tokens l.begun l.left)

pub leaves : (h : StoredMessages) (r : Leaving) → AreStored h → IsLeaving (outgoing h) r → Leaves h r
leaves h r i g =
    let p = kept_parts h i in
    let o = outgoing h in
    let l : ℕ = h.left in
    let j : ℕ = r.begun in
    let n : ℕ = r.taken.bytes in
    let k : ℕ = r.taken.tokens in
    let ms = parted h.boundaries (drop l h.bytes) h.tokens in
    let s = split j h.boundaries (drop l h.bytes) h.tokens p in
    let size : ℕ = lens (take j h.boundaries) in
    let count : ℕ = token_counts (take j h.boundaries) in
    let begun_is : newly_begun o n ≡ take j ms =
    begun_front (n - length o.left) ms ∙ ap (λ (q : ℕ). take q ms) (sym g.begun) in
    let begun_len : length (newly_begun o n) ≡ j = sym g.begun in
    let bytes_are : all_bytes (newly_begun o n) ≡ take size (drop l h.bytes) =
    ap (λ (m : List QueuedMessage). all_bytes m) begun_is ∙ s.bytes in
    let tokens_are : all_tokens (newly_begun o n) ≡ take count h.tokens =
    ap (λ (m : List QueuedMessage). all_tokens m) begun_is ∙ s.tokens in
    let size_within : size + lens (drop j h.boundaries) ≡ lens h.boundaries = lens-parts j h.boundaries in
    let count_within : count + token_counts (drop j h.boundaries) ≡ token_counts h.boundaries = counts-parts j h.boundaries in
    let bytes_len : length (all_bytes (newly_begun o n)) ≡ size =
    ap (λ (q : List ℕ). length q) bytes_are ∙ omega (arith, length-take size (drop l h.bytes), p.bytes, size_within) in
    let tokens_len : length (all_tokens (newly_begun o n)) ≡ count =
    ap (λ (q : List ℕ). length q) tokens_are ∙ omega (arith, length-take count h.tokens, p.tokens, count_within) in
    let ends : l + size ≡ n + r.left = omega (
      arith,
      g.left,
      length-append o.left
          (all_bytes (newly_begun o n)),
      left_len h i,
      bytes_len,
    ) in
    let k_is : k ≡ count = g.tokens ∙ tokens_len in
    let front : drop n (take l h.bytes ++ all_bytes (newly_begun o n)) ≡ take r.left (drop n h.bytes) =
    ap (λ (q : List ℕ). drop n (take l h.bytes ++ q)) bytes_are ∙ ap (drop n) (sym (take-add l size h.bytes))
    ∙ ap (λ (q : ℕ). drop n (take q h.bytes)) ends ∙ drop-take n r.left h.bytes in
    let behind : drop r.left (drop n h.bytes) ≡ drop size (drop l h.bytes) =
    drop-drop r.left n h.bytes ∙ ap (λ (q : ℕ). drop q h.bytes) (sym ends) ∙ sym (drop-drop size l h.bytes) in
    let others : parted (drop j h.boundaries) (drop r.left (drop n h.bytes)) (drop k h.tokens)
    ≡ drop (length (newly_begun o n)) ms =
    (λ d. parted (drop j h.boundaries) (behind d) (drop (k_is d) h.tokens)) ∙ sym s.others
    ∙ ap (λ (q : ℕ). drop q ms) (sym begun_len) in
    let n_there : n ≤ length h.bytes = omega (arith, ends, i.bytes, size_within) in
    record {
      bytes = n_there;
      tokens = omega (arith, k_is, i.tokens, count_within);
      boundaries = omega (
        arith,
        begun_len,
        ap (λ (q : List QueuedMessage). length q) begun_is,
        length-take j ms,
        length-parted
            h.boundaries (drop l h.bytes) h.tokens,
      );
      after = λ d. record {
        left = sym front d;
        messages = others d;
        capacity = h.capacity;
        token_capacity = h.token_capacity;
        limit = h.limit;
        has_error = h.has_error;
        error_from = h.error_from - n;
        error_to = h.error_to - n;
      };
      kept = record {
        bytes = omega (arith, ends, i.bytes, size_within, length-drop n h.bytes);
        tokens = omega (arith, k_is, i.tokens, count_within, length-drop k h.tokens);
        each = each-drop j h.boundaries i.each;
        room = omega (arith, i.room, i.error_order, n_there, length-drop n h.bytes);
        token_room = omega (arith, i.token_room, length-drop k h.tokens);
        error_order = omega (arith, i.error_order);
        error_there = omega (arith, i.error_there, length-drop n h.bytes);
        error_len = omega (arith, i.error_len);
        no_error = λ e. let z = i.no_error e in omega (arith, z);
      };
    }

-- ---- an outbox in which nothing waits

no_boundaries : (ks : List Boundary) → length ks ≡ 0 → ks ≡ []
no_boundaries [] h = refl
no_boundaries (k ∷ ks) h = absurd (omega arith)

kept_none : (h : StoredMessages) → AreStored h → length h.bytes ≡ 0 → h.boundaries ≡ []
kept_none h i z = no_boundaries h.boundaries (omega (arith, boundaries_fit h.boundaries i.each, i.bytes))

nothing : (xs : List ℕ) → length xs ≡ 0 → xs ≡ []
nothing [] h = refl
nothing (x ∷ xs) h = absurd (omega arith)

pub nothing_waits : (h : StoredMessages) → AreStored h → length h.bytes ≡ 0
    → (waiting_bytes (outgoing h) ≡ []) × (waiting_tokens (outgoing h) ≡ [])
nothing_waits h i z = (
  bytes_wait h i ∙ nothing h.bytes z,
  tokens_wait h i
      ∙ nothing h.tokens (omega (arith, i.tokens, ap (λ (k : List Boundary). token_counts k) (kept_none h i z))),
)

pub nothing_left : (h : StoredMessages) → AreStored h → length h.bytes ≡ 0 → ((outgoing h).left ≡ []) × ((outgoing h).messages ≡ [])
nothing_left h i z = (
  nothing (take h.left h.bytes) (omega (arith, length-take h.left h.bytes)),
  ap
      (λ (k : List Boundary). parted k (drop h.left h.bytes) h.tokens) (kept_none h i z),
)

pub no_bytes : (h : StoredMessages) → AreStored h → waiting_bytes (outgoing h) ≡ [] → length h.bytes ≡ 0
no_bytes h i e = ap (λ (l : List ℕ). length l) (sym (bytes_wait h i) ∙ e)

pub no_messages_bytes : (h : StoredMessages) → AreStored h → (outgoing h).left ≡ [] → (outgoing h).messages ≡ [] → length h.bytes ≡ 0
no_messages_bytes h i p q = no_bytes h i (λ d. p d ++ all_bytes (q d))
