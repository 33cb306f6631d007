-- Taking tokens out of both queues.
use Rattle.std.proofs.Common.{◌≡◌, ℕ, ◌+◌, ◌-◌, ◌≤◌, ◌⊎◌, inl, inr, min, List, [], ◌++◌, length}
use Rattle.std.proofs.Common.{take, drop, sym, ap, ap₂, ◌∙◌, arith, length-append}
use Rattle.std.proofs.Common.{append_assoc}
use Rattle.std.proofs.lemmas.List.{append-nil, drop-append-le, drop-drop, drop_all, drop_at}
use Rattle.std.proofs.lemmas.List.{length-drop, length-take, take-append-le, take_all, take_at}
use Rattle.std.proofs.Math.Seq.{take-add}
use Rattle.wl_message.specs.declared.amounts.Amounts.{Amounts}
use Rattle.wl_message.specs.Outgoing.{QueuedMessage, Outgoing, Goes, after_taking, all_tokens, newly_begun}
use Rattle.wl_message.specs.Outgoing.{waiting_tokens}
use Rattle.wl_message.proofs.TakenInStep.{passes, tokens_append}
use Rattle.wl_message.proofs.Steps.{side}

-- the front of two lists, one after the other, if the second is used only once the first is empty
pub two_parts : (unread unsent : List ℕ) (k d : ℕ) → k ≤ length unread → (d ≡ 0) ⊎ (length unread ≤ k)
    → take (k + d) (unread ++ unsent) ≡ take k unread ++ take d unsent
two_parts unread unsent k d le (inl none) =
    let same : k + d ≡ k = omega (arith, none) in
    ap (λ (n : ℕ). take n (unread ++ unsent)) same ∙ take-append-le k unread unsent le
    ∙ sym (append-nil (take k unread)) ∙ ap (λ (n : ℕ). take k unread ++ take n unsent) (sym none)
two_parts unread unsent k d le (inr whole) =
    take-add k d (unread ++ unsent)
    ∙ ap₂ (λ (l m : List ℕ). l ++ take d m) (take-append-le k unread unsent le)
    (drop-append-le k unread unsent le ∙ ap (λ (l : List ℕ). l ++ unsent) (drop_all k unread whole))

-- two parts, written into a slice one after the other
pub written : (unread unsent old : List ℕ) (k d : ℕ) → k ≤ length unread → (d ≡ 0) ⊎ (length unread ≤ k)
    → take k unread ++ (take d unsent ++ drop d (drop k old)) ≡ take (k + d) (unread ++ unsent) ++ drop (k + d) old
written unread unsent old k d le apart =
    sym (append_assoc (take k unread) (take d unsent) (drop d (drop k old)))
    ∙ ap₂ (λ (l m : List ℕ). l ++ m) (sym (two_parts unread unsent k d le apart)) (drop-drop d k old)

-- the second list is used only if the first is taken whole
pub places : (n k d m : ℕ) → k ≡ min n m → d ≤ n - k → (d ≡ 0) ⊎ (m ≤ k)
places n k d m is few = elim (side n m) [
  | inl h ↦ inl (omega (arith, is, few, h))
  | inr h ↦ inr (omega (arith, is, h))
]

-- the same in the slice itself; the second part goes after the first
pub both_written : (unread unsent old first second : List ℕ) (k d : ℕ) → k ≡ min (length old) (length unread)
    → first ≡ take k unread ++ drop k old
    → d ≤ length (take (length first - k) (drop k first))
    → second ≡ take d unsent ++ drop d (take (length first - k) (drop k first))
    → take k first ++ (second ++ drop (length first - k) (drop k first))
    ≡ take (k + d) (unread ++ unsent) ++ drop (k + d) old
both_written unread unsent old first second k d is first_is few second_is =
    let l : length (take k unread) ≡ k = omega (arith, length-take k unread, is) in
    let front : take k first ≡ take k unread = ap (take k) first_is ∙ take_at (take k unread) (drop k old) k l in
    let back : drop k first ≡ drop k old = ap (drop k) first_is ∙ drop_at (take k unread) (drop k old) k l in
    let place : take (length first - k) (drop k first) ≡ drop k old =
    take_all (length first - k) (drop k first) (omega (arith, length-drop k first)) ∙ back in
    let rest : drop (length first - k) (drop k first) ≡ [] =
    drop_all (length first - k) (drop k first) (omega (arith, length-drop k first)) in
    let written_is : second ≡ take d unsent ++ drop d (drop k old) =
    second_is ∙ ap (λ (m : List ℕ). take d unsent ++ drop d m) place in
    let bound : d ≤ length old - k = omega (arith, few, ap (λ (m : List ℕ). length m) place, length-drop k old) in
    (λ i. front i ++ (written_is i ++ rest i))
    ∙ ap (λ (m : List ℕ). take k unread ++ m) (append-nil (take d unsent ++ drop d (drop k old)))
    ∙ written unread unsent old k d (omega (arith, is)) (places (length old) k d (length unread) is bound)

-- if no token remains, all were taken
pub all_taken : (o : Outgoing) (b t : ℕ) (taken : Amounts) → Goes o b t taken
    → waiting_tokens (after_taking o taken.bytes) ≡ [] → taken.tokens ≡ length (waiting_tokens o)
all_taken o b t taken g none =
    let p = passes o b t taken g in
    let parts : waiting_tokens o ≡ all_tokens (newly_begun o taken.bytes)
    ++ all_tokens (after_taking o taken.bytes).messages =
    ap (λ (ms : List QueuedMessage). all_tokens ms) p.rest
    ∙ tokens_append (newly_begun o taken.bytes) (after_taking o taken.bytes).messages in
    omega (
      arith,
      g.with_tokens,
      ap (λ (l : List ℕ). length l) parts,
      length-append
          (all_tokens (newly_begun o taken.bytes)) (all_tokens (after_taking o taken.bytes).messages),
      ap
          (λ (l : List ℕ). length l) none,
    )
