-- What several writes append.
use Rattle.std.proofs.Common.{◌≡◌, ◌∙◌, ◌⊎◌, ◌+◌, ◌-◌, ◌<◌, ◌≤◌, ℕ, List, ◌++◌, length, drop, take, Option, sym, subst}
use Rattle.std.proofs.Common.{inl, inr, arith}
use Rattle.std.proofs.lemmas.Grind.{common_steps}
use Rattle.std.proofs.lemmas.Bool.{cases_lt}
use Rattle.std.proofs.lemmas.List.{take_all}
use Rattle.std.proofs.Math.Seq.{take-add, take-append-add, take-append_seam}
use Rattle.std.proofs.lemmas.List.{length-drop, take-append-le}
use Rattle.std.specs.Io.KnownBytes.{Appends, Keeps}
use Rattle.std.proofs.KnownBytes.{Appends-kept, Appends-trans}
use Rattle.program_stream.specs.Writing.{AppendsFront}

-- the whole is a front part
pub front_whole : (a b : Option (List ℕ)) (xs : List ℕ) → Appends a b xs → AppendsFront a b xs
front_whole a b xs h = (length xs, subst (Appends a b) (sym (take_all (length xs) xs (omega arith))) h)

-- a text, and a front part of the next, are a front part of both
pub front_more : (a b c : Option (List ℕ)) (xs ys : List ℕ) → Appends a b xs → AppendsFront b c ys
    → AppendsFront a c (xs ++ ys)
front_more a b c xs ys h k = (
  length xs + k.0,
  subst (Appends a c) (sym (take-append-add xs ys k.0))
      (Appends-trans a b c xs (take k.0 ys) h k.1),
)

-- a front part of the first text is one of both
pub front_first : (a b : Option (List ℕ)) (xs ys : List ℕ) → AppendsFront a b xs → AppendsFront a b (xs ++ ys)
front_first a b xs ys h = go (cases_lt h.0 (length xs))
  where
    go : (h.0 < length xs) ⊎ (length xs ≤ h.0) → AppendsFront a b (xs ++ ys)
    go (inl lt) = (h.0, subst (Appends a b) (sym (take-append-le h.0 xs ys (omega (arith, lt)))) h.1)
    go (inr ge) = (length xs, subst (Appends a b) (take_all h.0 xs ge ∙ sym (take-append_seam xs ys)) h.1)

-- one more write, which took n of the remaining bytes
pub wrote_more : (a b c : Option (List ℕ)) (bytes : List ℕ) (at n next : ℕ) → at ≤ length bytes → next ≡ at + n
    → n ≤ length (take (length bytes - at) (drop at bytes)) → Appends a b (take at bytes)
    → Appends b c (take n (take (length bytes - at) (drop at bytes)))
    → (next ≤ length bytes) × Appends a c (take next bytes)
wrote_more a b c bytes at n next le is most so_far more =
    let len = length-drop at bytes in
    let rest : take (length bytes - at) (drop at bytes) ≡ drop at bytes =
    take_all (length bytes - at) (drop at bytes) (omega (arith, len)) in
    let few : n ≤ length (drop at bytes) = subst (λ (xs : List ℕ). n ≤ length xs) rest most in
    let taken : Appends b c (take n (drop at bytes)) = subst (λ (xs : List ℕ). Appends b c (take n xs)) rest more in
    let all : Appends a c (take (at + n) bytes) =
    subst (Appends a c) (sym (take-add at n bytes))
    (Appends-trans a b c (take at bytes) (take n (drop at bytes)) so_far taken) in
    (omega (arith, le, is, few, len), subst (λ (m : ℕ). Appends a c (take m bytes)) (sym is) all)

-- one more write, which took nothing
pub wrote_none : (a b c : Option (List ℕ)) (bytes : List ℕ) (at next : ℕ) → at ≤ length bytes → next ≡ at
    → Appends a b (take at bytes) → Keeps b c
    → (next ≤ length bytes) × Appends a c (take next bytes)
wrote_none a b c bytes at next le is so_far keeps = (
  omega (arith, le, is),
  subst (λ (m : ℕ). Appends a c (take m bytes)) (sym is)
      (Appends-kept a b c (take at bytes) so_far keeps),
)

-- a line is its parts, in the order in which they are written
pub line_is : (begins first second third fourth fifth sixth text ends : List ℕ)
    → first ++ (second ++ (third ++ (fourth ++ (fifth ++ sixth)))) ≡ text
    → begins ++ ((first ++ (second ++ third)) ++ ((fourth ++ (fifth ++ sixth)) ++ ends)) ≡ begins ++ (text ++ ends)
line_is begins first second third fourth fifth sixth text ends is = grind (arith, common_steps)
