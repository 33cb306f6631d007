-- What can go at once.
use Rattle.std.proofs.Common.{◌≡◌, ℕ, zero, suc, ◌-◌, ◌≤◌, List, [], ◌∷◌, length, take}
use Rattle.std.proofs.Common.{min, sym, ap, ◌∙◌, arith, inl, inr, length-append, length-take-le}
use Rattle.std.proofs.lemmas.Bool.{cases_lt}
use Rattle.wl_message.specs.declared.amounts.Amounts.{Amounts}
use Rattle.wl_message.specs.Outgoing.{QueuedMessage, Outgoing, all_tokens, begun, newly_begun, Goes, Peeks}
use Rattle.wl_message.specs.Outgoing.{waiting_bytes, waiting_tokens}
use Rattle.wl_message.proofs.Waiting.{as_many}

-- more bytes begin at least as many messages
begun_more : (m n : ℕ) (ms : List QueuedMessage) → m ≤ n
    → length (all_tokens (begun m ms)) ≤ length (all_tokens (begun n ms))
begun_more m n [] h = omega arith
begun_more zero n (x ∷ ms) h = omega arith
begun_more (suc m) zero (x ∷ ms) h = absurd (omega arith)
begun_more (suc m) (suc n) (x ∷ ms) h =
    omega (
      arith,
      begun_more (suc m - length x.bytes) (suc n - length x.bytes) ms (omega (arith, h)),
      length-append x.tokens (all_tokens (begun (suc m - length x.bytes) ms)),
      length-append x.tokens (all_tokens (begun (suc n - length x.bytes) ms)),
    )

more_tokens : (o : Outgoing) (m n : ℕ) → m ≤ n
    → length (all_tokens (newly_begun o m)) ≤ length (all_tokens (newly_begun o n))
more_tokens o m n h = begun_more (m - length o.left) (n - length o.left) o.messages (omega (arith, h))

none_begun : (o : Outgoing) (n : ℕ) → o.messages ≡ [] → length (all_tokens (newly_begun o n)) ≡ 0
none_begun o n e = ap (λ (ms : List QueuedMessage). length (all_tokens (begun (n - length o.left) ms))) e

first_tokens : (o : Outgoing) (one : Amounts) → (length (waiting_bytes o) ≡ 0 → o.messages ≡ [])
    → Goes o 1 (length (waiting_tokens o)) one → one.tokens ≡ length (all_tokens (newly_begun o 1))
first_tokens o one empty g =
    let many : one.bytes ≡ min 1 (length (waiting_bytes o)) = as_many o 1 _ one g (omega arith) in
    elim (cases_lt 0 (length (waiting_bytes o))) [
      | inl some ↦ (
          let all : one.bytes ≡ 1 = omega (arith, many) in
          g.with_tokens ∙ ap (λ (n : ℕ). length (all_tokens (newly_begun o n))) all)
      | inr none ↦ (
          let e = empty (omega (arith, none)) in
          g.with_tokens ∙ none_begun o one.bytes e ∙ sym (none_begun o 1 e))
    ]

pub peeks : (o : Outgoing) (one all : Amounts) (bytes : List ℕ) → (length (waiting_bytes o) ≡ 0 → o.messages ≡ [])
    → Goes o 1 (length (waiting_tokens o)) one → Goes o (length (waiting_bytes o)) one.tokens all
    → bytes ≡ take all.bytes (waiting_bytes o) → Peeks o bytes one.tokens
peeks o one all bytes empty g h e =
    let first = first_tokens o one empty g in
    let there = h.may.there in
    let most = h.may.tokens_within in
    let long : length bytes ≡ all.bytes = ap length e ∙ length-take-le all.bytes (waiting_bytes o) there in
    record {
      front = e ∙ ap (λ (n : ℕ). take n (waiting_bytes o)) (sym long);
      with_first = first;
      with_any = λ n some within.
          let few = more_tokens o n all.bytes (omega (arith, within, long)) in
          let low = more_tokens o 1 n some in
          omega (arith, few, low, most, first);
      longest = λ n within few.
          let k = h.longest n (record { there = within; within = within; tokens_within = few }) in
          omega (arith, k, long);
    }
