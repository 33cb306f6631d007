-- What goes if no message is begun.
use Rattle.std.proofs.Common.{◌≡◌, ℕ, zero, suc, ◌+◌, ◌-◌, ◌<◌, ◌≤◌, min, Bool, true, false, cond}
use Rattle.std.proofs.Common.{◌||◌, eqb, ltb, ◌⊎◌, inl, inr, List, [], ◌∷◌, ◌++◌, length, take}
use Rattle.std.proofs.Common.{refl, sym, ap, subst, ◌∙◌, arith, length-append}
use Rattle.std.specs.List.{AllByRecursion}
use Rattle.std.proofs.lemmas.Bool.Decides.{nat_tests}
use Rattle.wl_message.specs.declared.boundaries.Boundary.{Boundary}
use Rattle.wl_message.specs.declared.boundaries.Reach.{Reach}
use Rattle.wl_message.specs.declared.amounts.Amounts.{Amounts}
use Rattle.wl_message.specs.Outgoing.{QueuedMessage, Outgoing, all_bytes, all_tokens, begun, going}
use Rattle.wl_message.specs.Outgoing.{newly_begun, going_bytes, Goes, goes}
use Rattle.wl_message.specs.Boundaries.{reach}

-- ---- the messages begun

pub begun_none : (ms : List QueuedMessage) → begun 0 ms ≡ []
begun_none [] = refl
begun_none (m ∷ ms) = refl

pub begun_some : (m : QueuedMessage) (ms : List QueuedMessage) (n : ℕ) → 0 < n
    → begun n (m ∷ ms) ≡ m ∷ begun (n - length m.bytes) ms
begun_some m ms zero h = absurd (omega arith)
begun_some m ms (suc n) h = refl

pub begun_front : (n : ℕ) (ms : List QueuedMessage) → begun n ms ≡ take (length (begun n ms)) ms
begun_front n [] = refl
begun_front zero (m ∷ ms) = refl
begun_front (suc n) (m ∷ ms) = ap (λ (r : List QueuedMessage). m ∷ r) (begun_front (suc n - length m.bytes) ms)

-- ---- what goes is the most that may go

pub going_none : (t : ℕ) (ms : List QueuedMessage) → going 0 t ms ≡ 0
going_none t [] = refl
going_none t (m ∷ ms) = refl

within_step : (b t l k g : ℕ) → g ≤ b - l → cond (eqb b 0 || ltb t k) 0 (cond (ltb b l) b (l + g)) ≤ b
within_step b t l k g h = grind (arith, nat_tests)

pub going_within : (b t : ℕ) (ms : List QueuedMessage) → going b t ms ≤ b
going_within b t [] = omega arith
going_within b t (m ∷ ms) = within_step b t (length m.bytes) (length m.tokens) _
    (going_within (b - length m.bytes) (t - length m.tokens) ms)

there_step : (b t l k g r : ℕ) → g ≤ r → cond (eqb b 0 || ltb t k) 0 (cond (ltb b l) b (l + g)) ≤ l + r
there_step b t l k g r h = grind (arith, nat_tests)

pub going_there : (b t : ℕ) (ms : List QueuedMessage) → going b t ms ≤ length (all_bytes ms)
going_there b t [] = omega arith
going_there b t (m ∷ ms) =
    let e : length (m.bytes ++ all_bytes ms) ≡ length m.bytes + length (all_bytes ms) =
    length-append m.bytes (all_bytes ms) in
    rw e (there_step b t (length m.bytes) (length m.tokens) _ _
    (going_there (b - length m.bytes) (t - length m.tokens) ms))

-- how many tokens the messages have that n bytes begin
abbrev pub tokens_by : ℕ → List QueuedMessage → ℕ
tokens_by n ms = length (all_tokens (begun n ms))

tokens_some : (m : QueuedMessage) (ms : List QueuedMessage) (n : ℕ) → 0 < n
    → tokens_by n (m ∷ ms) ≡ length m.tokens + tokens_by (n - length m.bytes) ms
tokens_some m ms n h = ap (λ (l : List QueuedMessage). length (all_tokens l)) (begun_some m ms n h)
    ∙ length-append m.tokens (all_tokens (begun (n - length m.bytes) ms))

tokens_none : (ms : List QueuedMessage) → tokens_by 0 ms ≡ 0
tokens_none ms = ap (λ (l : List QueuedMessage). length (all_tokens l)) (begun_none ms)

begins_at : (b t l k g n : ℕ) → suc n ≡ cond (eqb b 0 || ltb t k) 0 (cond (ltb b l) b (l + g))
    → (k ≤ t) × ((suc n - l ≡ 0) ⊎ (suc n - l ≡ g))
begins_at b t l k g n e = grind (arith, nat_tests)

tokens_at : (m : QueuedMessage) (ms : List QueuedMessage) (b t g n : ℕ)
    → n ≡ cond (eqb b 0 || ltb t (length m.tokens)) 0 (cond (ltb b (length m.bytes)) b (length m.bytes + g))
    → tokens_by g ms ≤ t - length m.tokens → tokens_by n (m ∷ ms) ≤ t
tokens_at m ms b t g zero e h = omega (arith, tokens_none (m ∷ ms))
tokens_at m ms b t g (suc n) e h =
    let c = begins_at b t (length m.bytes) (length m.tokens) g n e in
    let s = tokens_some m ms (suc n) (omega arith) in
    elim c.1 [
      | inl z ↦ (let y = ap (λ (i : ℕ). tokens_by i ms) z in omega (arith, s, c.0, y, tokens_none ms))
      | inr z ↦ (let y = ap (λ (i : ℕ). tokens_by i ms) z in omega (arith, s, c.0, y, h))
    ]

pub going_tokens : (b t : ℕ) (ms : List QueuedMessage) → tokens_by (going b t ms) ms ≤ t
going_tokens b t [] = omega arith
going_tokens b t (m ∷ ms) = tokens_at m ms b t (going (b - length m.bytes) (t - length m.tokens) ms) _ refl
    (going_tokens (b - length m.bytes) (t - length m.tokens) ms)

longest_step : (b t l k g n j : ℕ) → 0 < n → n ≤ b → k + j ≤ t → (n - l ≤ b - l → j ≤ t - k → n - l ≤ g)
    → n ≤ cond (eqb b 0 || ltb t k) 0 (cond (ltb b l) b (l + g))
longest_step b t l k g n j p q r h =
    let h2 : n - l ≤ g = h (omega arith) (omega arith) in grind (arith, nat_tests)

pub going_longest : (b t n : ℕ) (ms : List QueuedMessage) → n ≤ b → n ≤ length (all_bytes ms) → tokens_by n ms ≤ t
    → n ≤ going b t ms
going_longest b t n [] p q r = omega arith
going_longest b t zero (m ∷ ms) p q r = omega arith
going_longest b t (suc n) (m ∷ ms) p q r =
    let e = tokens_some m ms (suc n) (omega arith) in
    let there : suc n - length m.bytes ≤ length (all_bytes ms) = omega (arith, length-append m.bytes (all_bytes ms)) in
    longest_step b t (length m.bytes) (length m.tokens) (going (b - length m.bytes) (t - length m.tokens) ms) (suc n)
    (tokens_by (suc n - length m.bytes) ms) (omega arith) p (omega (arith, e, r))
    (λ x y. going_longest (b - length m.bytes) (t - length m.tokens) (suc n - length m.bytes) ms x there y)

-- ---- the same, with the rest of a message that is begun

behind : (b l d : ℕ) (f : ℕ → ℕ) → b - l ≡ d → f 0 ≡ 0 → (min b l + f d) - l ≡ f d
behind b l zero f e z = omega arith
behind b l (suc d) f e z = omega arith

after_left : (o : Outgoing) (b t : ℕ) → going_bytes o b t - length o.left ≡ going (b - length o.left) t o.messages
after_left o b t = behind b (length o.left) (b - length o.left) (λ d. going d t o.messages) refl
    (going_none t o.messages)

pub goes_goes : (o : Outgoing) (b t : ℕ) → Goes o b t (goes o b t)
unfolding goes
goes_goes o b t =
    let e = after_left o b t in
    let w = going_within (b - length o.left) t o.messages in
    let h = going_there (b - length o.left) t o.messages in
    let k = going_tokens (b - length o.left) t o.messages in
    record {
      may = record {
        there = omega (arith, h, length-append o.left (all_bytes o.messages));
        within = omega (arith, w);
        tokens_within = subst (λ (n : ℕ). tokens_by n o.messages ≤ t) (sym e) k;
      };
      longest = λ n may.
          let l = going_longest (b - length o.left) t (n - length o.left) o.messages (omega (arith, may.within))
          (omega (arith, may.there, length-append o.left (all_bytes o.messages))) may.tokens_within in
          omega (arith, l, may.within);
      with_tokens = refl;
    }

-- what goes is determined
pub goes_one : (o : Outgoing) (b t : ℕ) (taken : Amounts) → Goes o b t taken → taken ≡ goes o b t
unfolding goes
goes_one o b t taken g =
    let h = goes_goes o b t in
    let more : taken.bytes ≤ going_bytes o b t = h.longest taken.bytes g.may in
    let less : going_bytes o b t ≤ taken.bytes = g.longest (going_bytes o b t) h.may in
    let e : taken.bytes ≡ going_bytes o b t = omega (arith, more, less) in
    let f = g.with_tokens ∙ ap (λ (n : ℕ). length (all_tokens (newly_begun o n))) e in
    λ i. record { bytes = e i; tokens = f i }

-- ---- how far messages reach, computed from the room that is left

pub record Agrees (ms : List QueuedMessage) (b t n g : ℕ) (r : Reach) : Type 0 where
  pub bytes : r.bytes + g ≡ b
  pub tokens : r.tokens + tokens_by g ms ≡ t
  pub count : r.begun ≡ n + length (begun g ms)
  pub left : r.left + g ≡ length (all_bytes (begun g ms))

abbrev pub boundaries_of : List QueuedMessage → List Boundary
boundaries_of [] = []
boundaries_of (m ∷ ms) = record { len = length m.bytes; tokens = length m.tokens } ∷ boundaries_of ms

abbrev pub stop : ℕ → ℕ → ℕ → Reach
stop b t n = record { bytes = b; tokens = t; begun = n; left = 0 }

agrees_none : (ms : List QueuedMessage) (b t n : ℕ) → Agrees ms b t n 0 (stop b t n)
agrees_none ms b t n =
    let e = begun_none ms in
    record {
      bytes = omega arith;
      tokens = omega (arith, tokens_none ms);
      count = omega (arith, ap (λ (l : List QueuedMessage). length l) e);
      left = omega (arith, ap (λ (l : List QueuedMessage). length (all_bytes l)) e);
    }

agrees_at : (m : QueuedMessage) (ms : List QueuedMessage) (b t n g : ℕ) (r : Reach) (x y z : Bool) → eqb b 0 ≡ x
    → ltb t (length m.tokens) ≡ y → ltb b (length m.bytes) ≡ z → 0 < length m.bytes
    → Agrees ms (b - length m.bytes) (t - length m.tokens) (n + 1) g r
    → Agrees (m ∷ ms) b t n (cond (x || y) 0 (cond z b (length m.bytes + g)))
    (cond x (stop b t n) (cond y (stop b t n) (cond z
    (record { bytes = 0; tokens = t - length m.tokens; begun = n + 1; left = length m.bytes - b }) r)))
agrees_at m ms b t n g r true y z p q s h a = agrees_none (m ∷ ms) b t n
agrees_at m ms b t n g r false true z p q s h a = agrees_none (m ∷ ms) b t n
agrees_at m ms b t n g r false false true p q s h a =
    let some : 0 < b = grind (arith, nat_tests) in
    let few : b < length m.bytes = grind (arith, nat_tests) in
    let enough : length m.tokens ≤ t = grind (arith, nat_tests) in
    let none : b - length m.bytes ≡ 0 = omega arith in
    let e : begun b (m ∷ ms) ≡ m ∷ [] = begun_some m ms b some ∙ ap (λ (i : ℕ). m ∷ begun i ms) none
    ∙ ap (λ (l : List QueuedMessage). m ∷ l) (begun_none ms) in
    record {
      bytes = omega arith;
      tokens = omega (
        arith,
        ap (λ (l : List QueuedMessage). length (all_tokens l)) e,
        length-append m.tokens [],
        enough,
      );
      count = omega (arith, ap (λ (l : List QueuedMessage). length l) e);
      left = omega (arith, ap (λ (l : List QueuedMessage). length (all_bytes l)) e, length-append m.bytes [], few);
    }
agrees_at m ms b t n g r false false false p q s h a =
    let all : length m.bytes ≤ b = grind (arith, nat_tests) in
    let enough : length m.tokens ≤ t = grind (arith, nat_tests) in
    let same : length m.bytes + g - length m.bytes ≡ g = omega arith in
    let e : begun (length m.bytes + g) (m ∷ ms) ≡ m ∷ begun g ms =
    begun_some m ms (length m.bytes + g) (omega arith) ∙ ap (λ (i : ℕ). m ∷ begun i ms) same in
    record {
      bytes = omega (arith, a.bytes, all);
      tokens = omega (
        arith,
        ap (λ (l : List QueuedMessage). length (all_tokens l)) e,
        length-append m.tokens
            (all_tokens (begun g ms)),
        enough,
        a.tokens,
      );
      count = omega (arith, ap (λ (l : List QueuedMessage). length l) e, a.count);
      left = omega (
        arith,
        ap (λ (l : List QueuedMessage). length (all_bytes l)) e,
        length-append m.bytes
            (all_bytes (begun g ms)),
        a.left,
      );
    }

pub agrees : (ms : List QueuedMessage) (b t n : ℕ) → AllByRecursion (λ m. 0 < length m.bytes) ms
    → Agrees ms b t n (going b t ms) (reach b t n (boundaries_of ms))
agrees [] b t n h = agrees_none [] b t n
agrees (m ∷ ms) b t n h =
    agrees_at m ms b t n _ _ _ _ _ refl refl refl h.0 (agrees ms (b - length m.bytes) (t - length m.tokens) (n + 1) h.1)

-- what goes into a room for b bytes and t tokens, from what is left of the room
pub record ReachesRoom (o : Outgoing) (b t : ℕ) (r : Reach) : Type 0 where
  pub bytes : r.bytes + going_bytes o b t ≡ b
  pub tokens : r.tokens + length (all_tokens (newly_begun o (going_bytes o b t))) ≡ t
  pub begun : r.begun ≡ length (newly_begun o (going_bytes o b t))
  pub left : r.left + going_bytes o b t ≡ length (o.left ++ all_bytes (newly_begun o (going_bytes o b t)))

-- the same, with the rest of a message that is begun
pub reaches : (o : Outgoing) (b t : ℕ) (r : Reach) → AllByRecursion (λ m. 0 < length m.bytes) o.messages
    → r ≡ reach (b - min b (length o.left)) t 0 (boundaries_of o.messages)
    → ReachesRoom o b t (record {
      bytes = r.bytes;
      tokens = r.tokens;
      begun = r.begun;
      left = length o.left - min b (length o.left) + r.left;
    })
reaches o b t r h e =
    let l : ℕ = length o.left in
    let g : ℕ = going (b - l) t o.messages in
    let same : b - min b l ≡ b - l = omega arith in
    let a = subst (λ (q : Reach). Agrees o.messages (b - l) t 0 g q)
    (sym (e ∙ ap (λ (k : ℕ). reach k t 0 (boundaries_of o.messages)) same)) (agrees o.messages (b - l) t 0 h) in
    let n : newly_begun o (going_bytes o b t) ≡ begun g o.messages =
    ap (λ (k : ℕ). begun k o.messages) (after_left o b t) in
    record {
      bytes = omega (arith, a.bytes);
      tokens = omega (arith, a.tokens, ap (λ (m : List QueuedMessage). length (all_tokens m)) n);
      begun = omega (arith, a.count, ap (λ (m : List QueuedMessage). length m) n);
      left = omega (
        arith,
        a.left,
        ap (λ (m : List QueuedMessage). length (all_bytes m)) n,
        length-append o.left
            (all_bytes (newly_begun o (going_bytes o b t))),
      );
    }
