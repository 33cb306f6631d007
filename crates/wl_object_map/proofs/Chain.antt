-- The chain of freed ids: how it changes if an id is taken out or put first, or if a slot elsewhere
-- is written.
use Rattle.std.proofs.Common.{◌≡◌, ◌≢◌, ℕ, zero, suc, ◌+◌, ◌<◌, ◌≤◌, List, [], ◌∷◌, ◌++◌, refl, sym}
use Rattle.std.proofs.Common.{◌∙◌, ap, cond, Bool, true, false, length, arith, eqb, ⊎_elim}
use Rattle.std.proofs.lemmas.Bool.{cases_eq}
use Rattle.std.proofs.lemmas.Grind.{common_steps}
use Rattle.std.proofs.lemmas.Bool.Decides.{nat_tests}
use Rattle.std.specs.declared.option.Option.{Option}
use Rattle.std.specs.declared.option.Option.TheVariants.{None, Some}
use Rattle.wl_object_map.specs.declared.slot_table.Slot.{Slot}
use Rattle.wl_object_map.specs.declared.slot_table.Slot.TheVariants.{Free}
use Rattle.wl_object_map.specs.View.{times, without, first_or}
use Rattle.wl_object_map.specs.Views.{times-without, without-absent}
use Rattle.wl_object_map.proofs.Freed.{times-append}
use Rattle.wl_object_map.specs.Slots.{slot_at, older_of, newer_of, last_or, with_older, with_newer}
use Rattle.wl_object_map.specs.Slots.{next_in, followed, IsChain, IsPut, IsOlderSet, IsNewerSet}

-- Neighbours in a list.

-- the newer neighbour of an id in the list is the head or in the list
newer_stands : (head id : ℕ) (ids : List ℕ) → 0 < times id ids → 0 < times (newer_of head id ids) (head ∷ ids)
newer_stands head id [] h = absurd (omega arith)
newer_stands head id (x ∷ xs) h = let t = newer_stands x id xs in grind (arith, common_steps, nat_tests, t, h)

first_apart : (x : ℕ) (ids : List ℕ) → times x ids ≡ 0 → x ≢ 0 → x ≢ first_or 0 ids
first_apart x [] t n = n
first_apart x (y ∷ ys) t n = λ e. let no : false ≡ true = grind (arith, common_steps, nat_tests, t, e) in cc

-- an id that is not 0 and not in the list is nobody's older neighbour
older_apart : (id x : ℕ) (ids : List ℕ) → times x ids ≡ 0 → x ≢ 0 → x ≢ older_of id ids
older_apart id x [] t n = n
older_apart id x (y ∷ ys) t n = ⊎_elim
    (λ same. λ e. first_apart x ys (omega arith) n (e ∙ grind (arith, common_steps, nat_tests, same)))
    (λ other. λ e. older_apart id x ys (omega arith) n (e ∙ grind (arith, common_steps, nat_tests, other)))
    (cases_eq y id)

-- another head changes the newer neighbour of the first id only
newer_head : (head other id : ℕ) (ids : List ℕ) → 0 < times id ids
    → newer_of head id ids ≡ cond (eqb id (first_or 0 ids)) head (newer_of other id ids)
newer_head head other id [] h = absurd (omega arith)
newer_head head other id (x ∷ xs) h = grind (arith, common_steps, nat_tests, h)

-- Neighbours in a list without an id.

first_without : (head id : ℕ) (ids : List ℕ) → times head ids ≡ 0 → times id ids ≡ 1
    → first_or 0 (without id ids) ≡ cond (eqb (newer_of head id ids) head) (older_of id ids) (first_or 0 ids)
first_without head id [] out one = absurd (omega arith)
first_without head id (x ∷ xs) out one =
    let w = without-absent id xs in
    let s = newer_stands x id xs in
    grind (arith, common_steps, nat_tests, w, s, out, one)

older_without : (head id q : ℕ) (ids : List ℕ) → ((x : ℕ) → times x ids ≤ 1) → times head ids ≡ 0 → times id ids ≡ 1
    → times q ids ≡ 1 → q ≢ id
    → older_of q (without id ids) ≡ cond (eqb q (newer_of head id ids)) (older_of id ids) (older_of q ids)
older_without head id q [] once out one in_q other = absurd (omega arith)
older_without head id q (x ∷ xs) once out one in_q other =
    let tail = λ (y : ℕ). let h = once y in let t : times y xs ≤ 1 = omega arith in t in
    let here = once x in
    let w = without-absent id xs in
    let f = first_without x id xs in
    let h = older_without x id q xs tail in
    grind (arith, common_steps, nat_tests, here, w, f, h, out, one, in_q, other)

newer_without : (head id q : ℕ) (ids : List ℕ) → ((x : ℕ) → times x ids ≤ 1) → times 0 ids ≡ 0 → times id ids ≡ 1
    → times q ids ≡ 1 → q ≢ id
    → newer_of head q (without id ids) ≡ cond (eqb q (older_of id ids)) (newer_of head id ids) (newer_of head q ids)
newer_without head id q [] once null one in_q other = absurd (omega arith)
newer_without head id q (x ∷ xs) once null one in_q other =
    let tail = λ (y : ℕ). let h = once y in let t : times y xs ≤ 1 = omega arith in t in
    let here = once x in
    let w = without-absent id xs in
    let n = newer_head head x q xs in
    let a = older_apart id x xs in
    let h = newer_without x id q xs tail in
    grind (arith, common_steps, nat_tests, here, w, n, a, h, null, one, in_q, other)

-- The neighbours of an id at which a list is split.

older_in : (id : ℕ) (front rest : List ℕ) → times id front ≡ 0 → older_of id (front ++ id ∷ rest) ≡ first_or 0 rest
older_in id [] rest out = grind (arith, common_steps, nat_tests)
older_in id (x ∷ xs) rest out = let h = older_in id xs rest in grind (arith, common_steps, nat_tests, h, out)

newer_in : (head id : ℕ) (front rest : List ℕ) → times id front ≡ 0
    → newer_of head id (front ++ id ∷ rest) ≡ last_or head front
newer_in head id [] rest out = grind (arith, common_steps, nat_tests)
newer_in head id (x ∷ xs) rest out = let h = newer_in x id xs rest in grind (arith, common_steps, nat_tests, h, out)

-- the slot of an id in the chain holds its two neighbours: the last id before it and the first one
-- after it, 0 if there is none
pub neighbours : (slots : List Slot) (first id : ℕ) (front rest : List ℕ) → IsChain slots first (front ++ id ∷ rest)
    → slot_at slots id ≡ Some (Free (last_or 0 front) (first_or 0 rest))
neighbours slots first id front rest c =
    let t = times-append id front (id ∷ rest) in
    let one = c.once id in
    let here : times id (id ∷ rest) ≡ 1 + times id rest = grind (arith, common_steps, nat_tests) in
    let out : times id front ≡ 0 = omega arith in
    let newer = newer_in 0 id front rest out in
    let older = older_in id front rest out in
    c.linked id (omega arith) ∙ (λ i. Some (Free (newer i) (older i)))

-- Following the chain.

pub length-followed : (n : ℕ) (slots : List Slot) (id : ℕ) → length (followed n slots id) ≡ n
length-followed zero slots id = refl
length-followed (suc n) slots id = ap suc (length-followed n slots (next_in (slot_at slots id)))

spelled : (slots : List Slot) (ids : List ℕ) → ((x : ℕ) → times x ids ≤ 1)
    → ((q : ℕ) → 0 < times q ids → next_in (slot_at slots q) ≡ older_of q ids)
    → followed (length ids) slots (first_or 0 ids) ≡ ids
spelled slots [] once next = refl
spelled slots (x ∷ xs) once next =
    let tail = λ (y : ℕ). let h = once y in let t : times y xs ≤ 1 = omega arith in t in
    let here = once x in
    let on : (q : ℕ) → 0 < times q xs → next_in (slot_at slots q) ≡ older_of q xs = λ q p. let e = next q
    in grind (arith, common_steps, nat_tests, e, p, here) in
    let first : next_in (slot_at slots x) ≡ first_or 0 xs = let e = next x
    in grind (arith, common_steps, nat_tests, e) in
    ap (λ ys. x ∷ ys) (ap (followed (length xs) slots) first ∙ spelled slots xs tail on)

-- following the chain from its first id visits its ids in order
pub follows : (slots : List Slot) (first : ℕ) (ids : List ℕ) → IsChain slots first ids → (n : ℕ) → n ≡ length ids
    → followed n slots first ≡ ids
follows slots first ids c n e =
    ap (λ k. followed k slots first) e
    ∙ ap (followed (length ids) slots) c.begins
    ∙ spelled slots ids c.once (λ q p. ap next_in (c.linked q p))

-- the null id is in no chain
pub null_apart : (slots : List Slot) (first : ℕ) (ids : List ℕ) → IsChain slots first ids → times 0 ids ≡ 0
null_apart slots first ids c = ⊎_elim
    (λ none. none)
    (λ some. let e : None ≡ Some (Free (newer_of 0 0 ids) (older_of 0 ids)) = c.linked 0 (omega arith) in cc)
    (cases_eq (times 0 ids) 0)

-- Changes of the slots.

-- slots that are equal at each id of the chain hold the same chain
pub kept : (old new : List Slot) (first : ℕ) (ids : List ℕ) → IsChain old first ids
    → ((q : ℕ) → 0 < times q ids → slot_at new q ≡ slot_at old q) → IsChain new first ids
kept old new first ids c same = record {
  begins = c.begins;
  once = c.once;
  linked = λ q p. same q p ∙ c.linked q p;
}

pick_older : (b : Bool) (y n o : ℕ) → cond b (with_older y (Some (Free n o))) (Some (Free n o))
    ≡ Some (Free n (cond b y o))
pick_older true y n o = refl
pick_older false y n o = refl

pick_newer : (b : Bool) (x n o : ℕ) → cond b (with_newer x (Some (Free n o))) (Some (Free n o))
    ≡ Some (Free (cond b x n) o)
pick_newer true x n o = refl
pick_newer false x n o = refl

-- an id is taken out: its neighbours are linked to each other
pub taken_out : (old mid new : List Slot) (first after id n o : ℕ) (ids : List ℕ)
    → IsChain old first ids → 0 < times id ids → slot_at old id ≡ Some (Free n o)
    → IsOlderSet n o old mid
    → IsNewerSet o n mid new
    → after ≡ cond (eqb n 0) o first
    → IsChain new after (without id ids)
taken_out old mid new first after id n o ids c stands at_id to_mid to_new to_after =
    let null = null_apart old first ids c in
    let here = c.once id in
    let one : times id ids ≡ 1 = omega arith in
    let both = sym at_id ∙ c.linked id stands in
    let en : n ≡ newer_of 0 id ids = cc in
    let eo : o ≡ older_of id ids = cc in
    record {
      begins = let f = first_without 0 id ids null one in let b = c.begins
          in to_after ∙ grind (arith, common_steps, nat_tests, f, b, en, eo);
      once = λ q. let t = times-without id q ids in let h = c.once q in grind (arith, common_steps, nat_tests, t, h);
      linked = λ q p.
          let t = times-without id q ids in
          let h = c.once q in
          let in_q : times q ids ≡ 1 = grind (arith, common_steps, nat_tests, t, h, p) in
          let other : q ≢ id = λ e. let no : false ≡ true = grind (arith, common_steps, nat_tests, t, p, e) in cc in
          let on = older_without 0 id q ids c.once null one in_q other in
          let nn = newer_without 0 id q ids c.once null one in_q other in
          let e1 : cond (eqb q o) n (newer_of 0 q ids) ≡ newer_of 0 q (without id ids) =
          ap (λ x. cond (eqb q x) n (newer_of 0 q ids)) eo
          ∙ ap (λ x. cond (eqb q (older_of id ids)) x (newer_of 0 q ids)) en ∙ sym nn in
          let e2 : cond (eqb q n) o (older_of q ids) ≡ older_of q (without id ids) =
          ap (λ x. cond (eqb q x) o (older_of q ids)) en
          ∙ ap (λ x. cond (eqb q (newer_of 0 id ids)) x (older_of q ids)) eo ∙ sym on in
          let in_mid = to_mid q ∙ ap (λ (s : Option Slot). cond (eqb q n) (with_older o s) s) (c.linked q (omega arith))
          ∙ pick_older (eqb q n) o (newer_of 0 q ids) (older_of q ids) in
          to_new q ∙ ap (λ (s : Option Slot). cond (eqb q o) (with_newer n s) s) in_mid
          ∙ pick_newer (eqb q o) n (newer_of 0 q ids) (cond (eqb q n) o (older_of q ids))
          ∙ (λ i. Some (Free (e1 i) (e2 i)));
    }

first_slot : (b d : Bool) (first head n o : ℕ) (s : Option Slot) → b ≡ true → d ≡ true → first ≡ head
    → cond b (Some (Free 0 first)) s ≡ Some (Free (cond d 0 n) (cond d head o))
first_slot b d first head n o s eb ed e =
    ap (λ x. cond x (Some (Free 0 first)) s) eb ∙ ap (λ x. Some (Free 0 x)) e
    ∙ sym (ap (λ x. Some (Free (cond x 0 n) (cond x head o))) ed)

-- an id is put first
pub with_first : (old mid new : List Slot) (first id : ℕ) (ids : List ℕ)
    → IsChain old first ids → times id ids ≡ 0
    → IsNewerSet first id old mid
    → IsPut id (Free 0 first) mid new
    → IsChain new id (id ∷ ids)
with_first old mid new first id ids c none to_mid to_new = record {
  begins = refl;
  once = λ q. let h = c.once q in grind (arith, common_steps, nat_tests, h, none);
  linked = λ q p. ⊎_elim
      (λ same. to_new q ∙ first_slot (eqb q id) (eqb id q) first (first_or 0 ids) _ _ _ (grind (arith, nat_tests, same))
      (grind (arith, nat_tests, same)) c.begins)
      (λ other.
      let in_q : 0 < times q ids = grind (arith, common_steps, nat_tests, p, other) in
      let h = newer_head id 0 q ids in_q in
      let e1 : cond (eqb q first) id (newer_of 0 q ids) ≡ newer_of 0 q (id ∷ ids) = let b = c.begins
      in grind (arith, common_steps, nat_tests, h, b, other) in
      let e2 : older_of q ids ≡ older_of q (id ∷ ids) = grind (arith, common_steps, nat_tests, other) in
      let in_mid = to_mid q ∙ ap (λ (s : Option Slot). cond (eqb q first) (with_newer id s) s) (c.linked q in_q)
      ∙ pick_newer (eqb q first) id (newer_of 0 q ids) (older_of q ids) in
      let apart : eqb q id ≡ false = grind (arith, nat_tests, other) in
      to_new q ∙ ap (λ b. cond b (Some (Free 0 first)) (slot_at mid q)) apart ∙ in_mid
      ∙ (λ i. Some (Free (e1 i) (e2 i))))
      (cases_eq q id);
}
