-- What was taken of pieces and what was not are together all of them, and stay in step.
use Rattle.std.proofs.Common.{◌≡◌, ℕ, zero, suc, ◌+◌, ◌<◌, ◌⊎◌, inl, inr, List}
use Rattle.std.proofs.Common.{[], ◌∷◌, ◌++◌, length, take, drop, refl, sym, ap, subst, ◌∙◌, arith}
use Rattle.std.proofs.lemmas.List.{append_assoc, append-nil, take-append-drop, take_all, drop_all}
use Rattle.std.proofs.Math.Seq.{take-append-add, drop-append-add}
use Rattle.wl_message.specs.declared.amounts.Amounts.{Amounts}
use Rattle.wl_message.specs.InStep.{Part, Need, part_bytes, part_tokens, InStep}
use Rattle.wl_message.proofs.Steps.{step_joined, step_parted}
use Rattle.wl_connection.specs.Core.{no_room}
use Rattle.wl_connection.specs.Streams.{IsTaken, taken_bytes, taken_tokens, untaken, part_with_more}

-- what was taken and what was not are together all of the pieces
pub taken-untaken_bytes : (pieces : List Part) (count : ℕ) (some : Amounts)
    → taken_bytes pieces count some ++ part_bytes (untaken pieces count some) ≡ part_bytes pieces
taken-untaken_bytes [] count some = refl
taken-untaken_bytes (p ∷ ps) zero some = sym (append_assoc (take some.bytes p.bytes) (drop some.bytes p.bytes)
    (part_bytes ps)) ∙ ap (λ (l : List ℕ). l ++ part_bytes ps) (take-append-drop some.bytes p.bytes)
taken-untaken_bytes (p ∷ ps) (suc count) some = append_assoc p.bytes (taken_bytes ps count some)
    (part_bytes (untaken ps count some)) ∙ ap (λ (l : List ℕ). p.bytes ++ l) (taken-untaken_bytes ps count some)

pub taken-untaken_tokens : (pieces : List Part) (count : ℕ) (some : Amounts)
    → taken_tokens pieces count some ++ part_tokens (untaken pieces count some) ≡ part_tokens pieces
taken-untaken_tokens [] count some = refl
taken-untaken_tokens (p ∷ ps) zero some = sym (append_assoc (take some.tokens p.tokens) (drop some.tokens p.tokens)
    (part_tokens ps)) ∙ ap (λ (l : List ℕ). l ++ part_tokens ps) (take-append-drop some.tokens p.tokens)
taken-untaken_tokens (p ∷ ps) (suc count) some = append_assoc p.tokens (taken_tokens ps count some)
    (part_tokens (untaken ps count some)) ∙ ap (λ (l : List ℕ). p.tokens ++ l) (taken-untaken_tokens ps count some)

-- ---- pieces in step stay so when what was taken of them joins what waits

longer_none : (w : Part) → part_with_more w [] [] ≡ w
longer_none w =
    let b = append-nil w.bytes in
    let t = append-nil w.tokens in
    λ i. record { bytes = b i; tokens = t i }

take_over : (xs ys : List ℕ) (n : ℕ) → take (length xs + n) (xs ++ ys) ≡ xs ++ take n ys
take_over xs ys n = take-append-add xs ys n

drop_over : (xs ys : List ℕ) (n : ℕ) → drop (length xs + n) (xs ++ ys) ≡ drop n ys
drop_over xs ys n = drop-append-add xs ys n

step_some : (needs : List Need) (w p : Part) (ps : List Part) (some : Amounts) → some.tokens ≡ length p.tokens
    → InStep needs (w ∷ p ∷ ps)
    → InStep needs (part_with_more w (take some.bytes p.bytes) (take some.tokens p.tokens)
    ∷ record { bytes = drop some.bytes p.bytes; tokens = drop some.tokens p.tokens } ∷ ps)
step_some needs w p ps some e s =
    let n = length w.bytes + some.bytes in
    let parted = step_parted needs (part_with_more w p.bytes p.tokens) n ps (step_joined needs w p ps s) in
    let b1 = take_over w.bytes p.bytes some.bytes in
    let b2 = drop_over w.bytes p.bytes some.bytes in
    let t1 : p.tokens ≡ take some.tokens p.tokens = sym (take_all some.tokens p.tokens (omega (arith, e))) in
    let t2 : [] ≡ drop some.tokens p.tokens = sym (drop_all some.tokens p.tokens (omega (arith, e))) in
    subst (InStep needs) (λ i. record { bytes = b1 i; tokens = w.tokens ++ t1 i }
    ∷ record { bytes = b2 i; tokens = t2 i } ∷ ps) parted

step_next : (needs : List Need) (w p : Part) (ps : List Part) (some : Amounts)
    → (some ≡ no_room) ⊎ ((some.bytes < length p.bytes) × (some.tokens ≡ length p.tokens)) → InStep needs (w ∷ p ∷ ps)
    → InStep needs (part_with_more w (take some.bytes p.bytes) (take some.tokens p.tokens)
    ∷ record { bytes = drop some.bytes p.bytes; tokens = drop some.tokens p.tokens } ∷ ps)
step_next needs w p ps some (inl e) s =
    let all : Amounts → List Part = λ (f : Amounts). part_with_more w (take f.bytes p.bytes) (take f.tokens p.tokens)
    ∷ record { bytes = drop f.bytes p.bytes; tokens = drop f.tokens p.tokens } ∷ ps in
    subst (λ (f : Amounts). InStep needs (all f)) (sym e)
    (subst (λ (x : Part). InStep needs (x ∷ p ∷ ps)) (sym (longer_none w)) s)
step_next needs w p ps some (inr e) s = step_some needs w p ps some e.1 s

pub taken_in_step : (needs : List Need) (w : Part) (pieces : List Part) (count : ℕ) (some : Amounts)
    → IsTaken pieces count some → InStep needs (w ∷ pieces)
    → InStep needs (part_with_more w (taken_bytes pieces count some) (taken_tokens pieces count some)
    ∷ untaken pieces count some)
taken_in_step needs w [] count some t s = subst (λ (x : Part). InStep needs (x ∷ [])) (sym (longer_none w)) s
taken_in_step needs w (p ∷ ps) zero some t s = step_next needs w p ps some t s
taken_in_step needs w (p ∷ ps) (suc count) some t s =
    let b = append_assoc w.bytes p.bytes (taken_bytes ps count some) in
    let k = append_assoc w.tokens p.tokens (taken_tokens ps count some) in
    subst (λ (x : Part). InStep needs (x ∷ untaken ps count some)) (λ i. record { bytes = b i; tokens = k i })
    (taken_in_step needs (part_with_more w p.bytes p.tokens) ps count some t (step_joined needs w p ps s))
