-- Tokens that are taken without their messages.
use Rattle.std.proofs.Common.{◌≡◌, ℕ, zero, suc, ◌-◌, ◌≤◌, min, List, [], ◌∷◌, ◌++◌, length, take, drop}
use Rattle.std.proofs.Common.{refl, sym, ap, ◌∙◌, arith, length-append, append_assoc}
use Rattle.std.proofs.lemmas.List.{take-append-drop}
use Rattle.wl_message.specs.declared.amounts.Amounts.{Amounts}
use Rattle.wl_message.specs.Arrived.{Arrived, Gives, starts, feeds, passes, takes}
use Rattle.wl_message.specs.Outgoing.{QueuedMessage, Outgoing, all_tokens, begun, Goes, waiting_bytes, waiting_tokens}

-- ---- an inbox

-- what was given before, what is given now, and what still waits
parted : (given waiting : List ℕ) (n : ℕ) → given ++ waiting ≡ (given ++ take n waiting) ++ drop n waiting
parted given waiting n =
    ap (λ (l : List ℕ). given ++ l) (sym (take-append-drop n waiting))
    ∙ sym (append_assoc given (take n waiting) (drop n waiting))

pub gives_all : (fed given : List ℕ) (a : Arrived) → Gives fed given a → fed ≡ given ++ a.tokens
gives_all fed given a starts = refl
gives_all fed given a (feeds {fed = f} {given = g} {a = b} bytes tokens h) =
    ap (λ (l : List ℕ). l ++ tokens) (gives_all f g b h) ∙ append_assoc g b.tokens tokens
gives_all fed given a (passes {fed = f} {given = g} {a = b} bytes n h) = gives_all f g b h ∙ parted g b.tokens n
gives_all fed given a (takes {fed = f} {given = g} {a = b} n h) = gives_all f g b h ∙ parted g b.tokens n

-- ---- an outbox

tokens_begun : (n : ℕ) (ms : List QueuedMessage) → length (all_tokens (begun n ms)) ≤ length (all_tokens ms)
tokens_begun n [] = omega arith
tokens_begun zero (m ∷ ms) = omega arith
tokens_begun (suc n) (m ∷ ms) =
    omega (
      arith,
      tokens_begun (suc n - length m.bytes) ms,
      length-append m.tokens
          (all_tokens (begun (suc n - length m.bytes) ms)),
      length-append m.tokens (all_tokens ms),
    )

-- if there is room for all bytes and all tokens, all bytes go
pub all_go : (o : Outgoing) (t : ℕ) (taken : Amounts) → Goes o (length (waiting_bytes o)) t taken
    → length (waiting_tokens o) ≤ t → length (waiting_bytes o) ≤ taken.bytes
all_go o t taken g h =
    g.longest (length (waiting_bytes o)) (record {
      there = omega arith;
      within = omega arith;
      tokens_within = omega (arith, h, tokens_begun (length (waiting_bytes o) - length o.left) o.messages);
    })

-- if there is room for all tokens, as many bytes go as there is room for
pub as_many : (o : Outgoing) (b t : ℕ) (taken : Amounts) → Goes o b t taken → length (waiting_tokens o) ≤ t
    → taken.bytes ≡ min b (length (waiting_bytes o))
as_many o b t taken g h =
    let n : ℕ = min b (length (waiting_bytes o)) in
    let there = g.may.there in
    let within = g.may.within in
    let most = g.longest n (record {
      there = omega arith;
      within = omega arith;
      tokens_within = omega (arith, h, tokens_begun (n - length o.left) o.messages);
    }) in
    omega (arith, most, there, within)
