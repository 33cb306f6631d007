-- The places of births are ordered, so a birth is found by its place.
use Rattle.std.proofs.Common.{◌≡◌, ℕ, zero, suc, ◌<◌, ◌≤◌, Bool, true, false, cond, List, [], ◌∷◌, ◌++◌}
use Rattle.std.proofs.Common.{length, length-append, get_or, inl, inr, refl, sym, ap, subst, ◌∙◌, arith, append-nil}
use Rattle.std.specs.Prelude.{nat_eq}
use Rattle.std.specs.declared.option.Option.{Option}
use Rattle.std.specs.declared.option.Option.TheVariants.{None, Some}
use Rattle.std.proofs.lemmas.Bool.{cases_lt, ne_eqb, eq-eqb}
use Rattle.std.proofs.lemmas.List.{get_or_append_left}
use Rattle.std.proofs.Math.Seq.{get_or-append_seam}
use Rattle.wl_sigs.specs.Tables.{Interface}
use Rattle.wl_object_map.specs.declared.object.Maker.{Maker}
use Rattle.wl_object_map.specs.declared.object.Maker.TheVariants.{Client, Server}
use Rattle.wl_object_map.specs.Objects.{maker_of}
use Rattle.wl_object_map.specs.Ranges.{is_of_server}
use Rattle.wl_objects.specs.Messages.{NewObject}
use Rattle.wl_check.specs.Session.{Judged, changes_at}
use Rattle.theory_connection.specs.Meant.{same_maker}
use Rattle.theory_recording.specs.Follows.{birth_places, place_of_making, places_of_making}
use Rattle.theory_peers.specs.AcceptedRequest.{index_of}

-- each number is below the bound, and is found at its own index
record IsOrdered (numbers : List ℕ) (bound : ℕ) : Type 0 where
  below : (i : ℕ) → i < length numbers → get_or numbers i 0 < bound
  index : (i : ℕ) → i < length numbers → index_of numbers (get_or numbers i 0) ≡ i

index_in_front : (xs ys : List ℕ) (x : ℕ) → index_of xs x < length xs → index_of (xs ++ ys) x ≡ index_of xs x
unfolding index_of
index_in_front [] ys x h = absurd (omega (arith, h))
index_in_front (y ∷ xs) ys x h = by_test (nat_eq y x) h (λ l. index_in_front xs ys x l)
  where
    by_test : (b : Bool) → cond b 0 (suc (index_of xs x)) < suc (length xs)
        → (index_of xs x < length xs → index_of (xs ++ ys) x ≡ index_of xs x)
        → cond b 0 (suc (index_of (xs ++ ys) x)) ≡ cond b 0 (suc (index_of xs x))
    by_test true l more = refl
    by_test false l more = ap suc (more (omega (arith, l)))

index_of_last : (xs : List ℕ) (p : ℕ) → ((i : ℕ) → i < length xs → get_or xs i 0 < p)
    → index_of (xs ++ p ∷ []) p ≡ length xs
unfolding index_of
index_of_last [] p h = rw (eq-eqb p p refl) refl
index_of_last (y ∷ xs) p h =
    let first : y < p = h 0 (omega arith) in
    let other : nat_eq y p ≡ false = ne_eqb y p (λ e. omega (arith, e, first)) in
    rw other (ap suc (index_of_last xs p (λ i l. h (suc i) (omega (arith, l)))))

ordered_same : (xs : List ℕ) (p : ℕ) → IsOrdered xs p → IsOrdered xs (suc p)
ordered_same xs p o = record {
  below = λ i l. (let b = o.below i l in omega (arith, b));
  index = o.index;
}

ordered_more : (xs : List ℕ) (p : ℕ) → IsOrdered xs p → IsOrdered (xs ++ p ∷ []) (suc p)
ordered_more xs p o = record {
  below = λ i l. elim (cases_lt i (length xs)) [
    | inl h ↦ (let b = o.below i h in let g = get_or_append_left xs (p ∷ []) 0 i h in omega (arith, b, g))
    | inr h ↦ (let g = last i h l in omega (arith, g))
  ];
  index = λ i l. elim (cases_lt i (length xs)) [
    | inl h ↦ ap (index_of (xs ++ p ∷ [])) (get_or_append_left xs (p ∷ []) 0 i h)
        ∙ index_in_front xs (p ∷ []) (get_or xs i 0) (let x = o.index i h in omega (arith, x, h)) ∙ o.index i h
    | inr h ↦ ap (index_of (xs ++ p ∷ [])) (last i h l) ∙ index_of_last xs p o.below ∙ sym (at_end i h l)
  ];
}
  where
    at_end : (i : ℕ) → length xs ≤ i → i < length (xs ++ p ∷ []) → i ≡ length xs
    at_end i h l = omega (arith, h, l, length-append xs (p ∷ []))

    last : (i : ℕ) → length xs ≤ i → i < length (xs ++ p ∷ []) → get_or (xs ++ p ∷ []) i 0 ≡ p
    last i h l = ap (λ (n : ℕ). get_or (xs ++ p ∷ []) n 0) (at_end i h l) ∙ get_or-append_seam xs p [] 0

ordered_grown : (by : Maker) (made : Option NewObject) (xs : List ℕ) (p : ℕ) → IsOrdered xs p
    → IsOrdered (xs ++ place_of_making by made p) (suc p)
ordered_grown by None xs p o =
    subst (λ (l : List ℕ). IsOrdered l (suc p)) (sym (append-nil xs)) (ordered_same xs p o)
ordered_grown by (Some new) xs p o = by_test (same_maker (maker_of new.id) by)
  where
    by_test : (b : Bool) → IsOrdered (xs ++ cond b (p ∷ []) []) (suc p)
    by_test true = ordered_more xs p o
    by_test false = subst (λ (l : List ℕ). IsOrdered l (suc p)) (sym (append-nil xs)) (ordered_same xs p o)

ordered_first : IsOrdered (0 ∷ []) 1
unfolding index_of
ordered_first = record {
  below = λ i l. one i l;
  index = λ i l. own i l;
}
  where
    one : (i : ℕ) → i < 1 → get_or (0 ∷ []) i 0 < 1
    one zero l = omega arith
    one (suc i) l = absurd (omega (arith, l))

    own : (i : ℕ) → i < 1 → index_of (0 ∷ []) (get_or (0 ∷ []) i 0) ≡ i
    own zero l = refl
    own (suc i) l = absurd (omega (arith, l))

ordered_makings : (made : ℕ → Option NewObject) (n : ℕ) (by : Maker) (first : NewObject) → made 0 ≡ Some first
    → is_of_server first.id ≡ false → IsOrdered (places_of_making made (suc n) by) (suc n)
unfolding places_of_making
ordered_makings made zero Client first e l =
    let is : places_of_making made 1 Client ≡ 0 ∷ [] = rw (e, l) refl in
    subst (λ (xs : List ℕ). IsOrdered xs 1) (sym is) ordered_first
ordered_makings made zero Server first e l =
    let is : places_of_making made 1 Server ≡ 0 ∷ [] = rw (e, l) refl in
    subst (λ (xs : List ℕ). IsOrdered xs 1) (sym is) ordered_first
ordered_makings made (suc n) by first e l =
    ordered_grown by (made (suc n)) (places_of_making made (suc n) by) (suc n) (ordered_makings made n by first e l)

-- a birth is found by its place
pub number_found : (tables : List Interface) (e : List Judged) (by : Maker) (number : ℕ)
    → number < length (birth_places tables e by)
    → index_of (birth_places tables e by) (get_or (birth_places tables e by) number 0) ≡ number
number_found tables e by number l =
    (ordered_makings (λ place. (changes_at tables e place).made) (length e) by _ refl refl).index number l
