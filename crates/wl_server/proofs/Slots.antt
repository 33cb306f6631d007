-- Slots of registries, and how each change to them changes the open registries.
use Rattle.std.proofs.Common.{◌≡◌, ◌≢◌, ℕ, zero, suc, ◌+◌, ◌<◌, ◌≤◌, Bool, true, false, List, [], ◌∷◌, ◌++◌}
use Rattle.std.proofs.Common.{length, length-append, take, drop, get_or, set, map, refl, sym, ap, subst, ◌∙◌, arith}
use Rattle.std.proofs.Common.{add-one, drop-cons, inl, inr}
use Rattle.std.specs.Prelude.{max, Result}
use Rattle.std.specs.declared.result.Result.TheVariants.{Ok, Err}
use Rattle.std.specs.Ordering.{MatchOrdering, nat_cmp, ordering_index}
use Rattle.std.specs.Cmp.{ranks}
use Rattle.std.specs.List.Sorted.{IsBinarySearchResult}
use Rattle.std.specs.List.{filter, count_by}
use Rattle.std.proofs.lemmas.Bool.{cases_lt}
use Rattle.std.proofs.lemmas.Bool.Decides.{nat_tests}
use Rattle.std.proofs.lemmas.List.{get_or_default, length-map, map-append, take-append-drop, take_at}
use Rattle.std.proofs.lemmas.List.{take_more, take_more_set}
use Rattle.std.proofs.Common.{append_assoc}
use Rattle.std.proofs.lemmas.List.Elements.{filter-append}
use Rattle.std.proofs.lemmas.List.Sums.{length-filter}
use Rattle.wl_object_map.specs.declared.object.Object.{Object}
use Rattle.wl_server.specs.declared.registry.RegistrySlot.{RegistrySlot}
use Rattle.wl_server.specs.State.{Global, Registry, RiseFrom}
use Rattle.wl_server.specs.Registries.{same_object, without_object}
use Rattle.wl_server.proofs.OneObject.{births-differ, differ, same-one}
use Rattle.wl_server.specs.Announcing.{Due, due_to, owed_in}
use Rattle.wl_server.specs.Slots.{SlotsRise, open_in, past_of}

abbrev pub birth_in : RegistrySlot → ℕ
birth_in slot = slot.registry.object.birth

abbrev pub is_open : RegistrySlot → Bool
is_open slot = slot.is_open

-- a slot is open or closed
either-way : (P : Type 0) (s : RegistrySlot) → (s.is_open ≡ true → P) → (s.is_open ≡ false → P) → P
either-way P s f h = by_test s.is_open refl
  where
    by_test : (b : Bool) → s.is_open ≡ b → P
    by_test true e = f e
    by_test false e = h e

-- ---- the open registries, slot by slot

pub open-first : (s : RegistrySlot) (xs : List RegistrySlot) → s.is_open ≡ true → open_in (s ∷ xs) ≡ s.registry ∷ open_in xs
open-first s xs e = rw e refl

pub closed-first : (s : RegistrySlot) (xs : List RegistrySlot) → s.is_open ≡ false → open_in (s ∷ xs) ≡ open_in xs
closed-first s xs e = rw e refl

pub open-append : (xs ys : List RegistrySlot) → open_in (xs ++ ys) ≡ open_in xs ++ open_in ys
open-append xs ys = ap (map (λ (s : RegistrySlot). s.registry)) (filter-append is_open xs ys)
    ∙ map-append (λ (s : RegistrySlot). s.registry) (filter is_open xs) (filter is_open ys)

-- the open registries of the first slots come first
pub take-open : (k : ℕ) (xs : List RegistrySlot) → take (length (open_in (take k xs))) (open_in xs) ≡ open_in (take k xs)
take-open k xs =
    ap (take (length (open_in (take k xs))))
    (ap open_in (sym (take-append-drop k xs)) ∙ open-append (take k xs) (drop k xs))
    ∙ take_at (open_in (take k xs)) (open_in (drop k xs)) (length (open_in (take k xs))) refl

-- ---- births

rise-from : (low least : ℕ) (xs : List RegistrySlot) → least ≤ low → SlotsRise low xs → SlotsRise least xs
rise-from low least [] h r = tt
rise-from low least (x ∷ xs) h r = (omega (arith, h, r.0), r.1)

pub rise-push : (low : ℕ) (xs : List RegistrySlot) (s : RegistrySlot) → SlotsRise low xs → low ≤ birth_in s → past_of xs ≤ birth_in s
    → SlotsRise low (xs ++ s ∷ [])
rise-push low [] s r l p = (l, tt)
rise-push low (x ∷ xs) s r l p =
    (r.0, rise-push (suc (birth_in x)) xs s r.1 (omega (arith, p)) (omega (arith, p)))

pub past-push : (xs : List RegistrySlot) (s : RegistrySlot) → past_of xs ≤ birth_in s → past_of (xs ++ s ∷ []) ≡ birth_in s + 1
past-push [] s p = omega arith
past-push (x ∷ xs) s p = let more = past-push xs s (omega (arith, p)) in omega (arith, more, p)

-- a change to a slot that keeps its birth
pub rise-set : (low : ℕ) (xs : List RegistrySlot) (i : ℕ) (s t : RegistrySlot) → SlotsRise low xs → s ≡ get_or xs i s
    → birth_in t ≡ birth_in s → SlotsRise low (set xs i t)
rise-set low [] i s t r e b = tt
rise-set low (x ∷ xs) zero s t r e b =
    let same : birth_in t ≡ birth_in x = b ∙ ap birth_in e in
    (subst (λ (n : ℕ). low ≤ n) (sym same) r.0, subst (λ (n : ℕ). SlotsRise (suc n) xs) (sym same) r.1)
rise-set low (x ∷ xs) (suc i) s t r e b = (r.0, rise-set (suc (birth_in x)) xs i s t r.1 e b)

pub past-set : (xs : List RegistrySlot) (i : ℕ) (s t : RegistrySlot) → s ≡ get_or xs i s → birth_in t ≡ birth_in s
    → past_of (set xs i t) ≡ past_of xs
past-set [] i s t e b = refl
past-set (x ∷ xs) zero s t e b = ap (λ (n : ℕ). max (suc n) (past_of xs)) (b ∙ ap birth_in e)
past-set (x ∷ xs) (suc i) s t e b = ap (max (suc (birth_in x))) (past-set xs i s t e b)

-- ---- a registry is closed

not-below : (object : Object) (low : ℕ) (xs : List RegistrySlot) → SlotsRise low xs → object.birth < low
    → without_object true object (open_in xs) ≡ open_in xs
not-below object low [] r l = refl
not-below object low (x ∷ xs) r l =
    let more = not-below object (suc (birth_in x)) xs r.1 (omega (arith, l, r.0)) in
    let other : same_object x.registry.object object ≡ false =
    births-differ x.registry.object object (λ f. omega (arith, f, l, r.0)) in
    either-way (without_object true object (open_in (x ∷ xs)) ≡ open_in (x ∷ xs)) x
    (λ o. rw (o, other) (ap (λ (l : List Registry). x.registry ∷ l) more))
    (λ o. rw o more)

at-least : (low : ℕ) (xs : List RegistrySlot) (i : ℕ) (s : RegistrySlot) → SlotsRise low xs → i < length xs → s ≡ get_or xs i s
    → low ≤ birth_in s
at-least low [] i s r l e = absurd (omega (arith, l))
at-least low (x ∷ xs) zero s r l e = subst (λ (n : ℕ). low ≤ n) (ap birth_in (sym e)) r.0
at-least low (x ∷ xs) (suc i) s r l e =
    let more = at-least (suc (birth_in x)) xs i s r.1 (omega (arith, l)) e in omega (arith, more, r.0)

-- closing the slot of an object removes that object, and no other, from the open registries
pub without-closed : (object : Object) (low : ℕ) (xs : List RegistrySlot) (i : ℕ) (s t : RegistrySlot) → SlotsRise low xs
    → i < length xs → s ≡ get_or xs i s → s.registry.object ≡ object → t.is_open ≡ false
    → open_in (set xs i t) ≡ without_object true object (open_in xs)
without-closed object low [] i s t r l e b c = absurd (omega (arith, l))
without-closed object low (x ∷ xs) zero s t r l e b c =
    let same : x.registry.object ≡ object = ap (λ (y : RegistrySlot). y.registry.object) (sym e) ∙ b in
    let birth : birth_in x ≡ object.birth = ap (λ (o : Object). o.birth) same in
    let rest : open_in xs ≡ without_object true object (open_in xs) =
    sym (not-below object (suc (birth_in x)) xs r.1 (omega (arith, birth))) in
    either-way (open_in (t ∷ xs) ≡ without_object true object (open_in (x ∷ xs))) x
    (λ o. rw (c, o, same-one x.registry.object object same) rest)
    (λ o. rw (c, o) rest)
without-closed object low (x ∷ xs) (suc i) s t r l e b c =
    let more = without-closed object (suc (birth_in x)) xs i s t r.1 (omega (arith, l)) e b c in
    let birth : birth_in s ≡ object.birth = ap (λ (o : Object). o.birth) b in
    let behind : birth_in x < object.birth =
    omega (arith, at-least (suc (birth_in x)) xs i s r.1 (omega (arith, l)) e, birth) in
    let other : same_object x.registry.object object ≡ false =
    births-differ x.registry.object object (λ f. omega (arith, f, behind)) in
    either-way (open_in (x ∷ set xs i t) ≡ without_object true object (open_in (x ∷ xs))) x
    (λ o. rw (o, other) (ap (λ (l : List Registry). x.registry ∷ l) more))
    (λ o. rw o more)

-- if no slot is that of this object, nothing is removed
pub without-other : (object : Object) (xs : List RegistrySlot)
    → ((k : ℕ) (x : RegistrySlot) → k < length xs → x ≡ get_or xs k x → x.registry.object ≢ object)
    → open_in xs ≡ without_object true object (open_in xs)
without-other object [] f = refl
without-other object (x ∷ xs) f =
    let more = without-other object xs (λ k y l e. f (suc k) y (omega (arith, l)) e) in
    let other : same_object x.registry.object object ≡ false =
    differ x.registry.object object (f 0 x (omega arith) refl) in
    either-way (open_in (x ∷ xs) ≡ without_object true object (open_in (x ∷ xs))) x
    (λ o. rw (o, other) (ap (λ (l : List Registry). x.registry ∷ l) more))
    (λ o. rw o more)

pub fewer-open : (xs : List RegistrySlot) (i : ℕ) (s t : RegistrySlot) → i < length xs → s ≡ get_or xs i s → s.is_open ≡ true
    → t.is_open ≡ false → length (open_in (set xs i t)) + 1 ≡ length (open_in xs)
fewer-open [] i s t l e o c = absurd (omega (arith, l))
fewer-open (x ∷ xs) zero s t l e o c =
    let there : x.is_open ≡ true = ap is_open (sym e) ∙ o in rw (c, there) (omega arith)
fewer-open (x ∷ xs) (suc i) s t l e o c =
    let more = fewer-open xs i s t (omega (arith, l)) e o c in
    either-way (length (open_in (x ∷ set xs i t)) + 1 ≡ length (open_in (x ∷ xs))) x
    (λ k. rw k (omega (arith, more)))
    (λ k. rw k more)

-- ---- what is settled

no-parts : (xs ys : List Due) → xs ++ ys ≡ [] → (xs ≡ []) × (ys ≡ [])
no-parts [] ys e = (refl, e)
no-parts (x ∷ xs) ys e = absurd (cc e)

-- the same slot in front of both lists
settled-first : (globals : List Global) (x : RegistrySlot) (xs ys : List RegistrySlot)
    → (owed_in globals (open_in xs) ≡ [] → owed_in globals (open_in ys) ≡ [])
    → owed_in globals (open_in (x ∷ xs)) ≡ [] → owed_in globals (open_in (x ∷ ys)) ≡ []
settled-first globals x xs ys f h =
    either-way (owed_in globals (open_in (x ∷ ys)) ≡ []) x
    (λ o. (let parts = no-parts (due_to globals x.registry) (owed_in globals (open_in xs))
    (ap (owed_in globals) (sym (open-first x xs o)) ∙ h) in
    ap (owed_in globals) (open-first x ys o) ∙ (λ j. parts.0 j ++ f parts.1 j)))
    (λ o. ap (owed_in globals) (closed-first x ys o) ∙ f (ap (owed_in globals) (sym (closed-first x xs o)) ∙ h))

settled-rest : (globals : List Global) (x : RegistrySlot) (xs : List RegistrySlot) → owed_in globals (open_in (x ∷ xs)) ≡ []
    → owed_in globals (open_in xs) ≡ []
settled-rest globals x xs h =
    either-way (owed_in globals (open_in xs) ≡ []) x
    (λ o. (no-parts (due_to globals x.registry) (owed_in globals (open_in xs))
    (ap (owed_in globals) (sym (open-first x xs o)) ∙ h)).1)
    (λ o. ap (owed_in globals) (sym (closed-first x xs o)) ∙ h)

pub settled-closed : (globals : List Global) (k : ℕ) (xs : List RegistrySlot) (i : ℕ) (t : RegistrySlot) → t.is_open ≡ false
    → owed_in globals (open_in (take k xs)) ≡ [] → owed_in globals (open_in (take k (set xs i t))) ≡ []
settled-closed globals zero xs i t c h = refl
settled-closed globals (suc k) [] i t c h = refl
settled-closed globals (suc k) (x ∷ xs) zero t c h =
    ap (owed_in globals) (closed-first t (take k xs) c) ∙ settled-rest globals x (take k xs) h
settled-closed globals (suc k) (x ∷ xs) (suc i) t c h =
    settled-first globals x (take k xs) (take k (set xs i t)) (settled-closed globals k xs i t c) h

-- the same, with the registries of the first k slots as the first of the open registries
pub settled-shut : (globals : List Global) (k : ℕ) (xs : List RegistrySlot) (i : ℕ) (t : RegistrySlot) → t.is_open ≡ false
    → owed_in globals (take (length (open_in (take k xs))) (open_in xs)) ≡ []
    → owed_in globals (take (length (open_in (take k (set xs i t)))) (open_in (set xs i t))) ≡ []
settled-shut globals k xs i t c h =
    ap (owed_in globals) (take-open k (set xs i t))
    ∙ settled-closed globals k xs i t c (ap (owed_in globals) (sym (take-open k xs)) ∙ h)

-- ---- the closed slots are removed

kept-first : (x : RegistrySlot) (xs : List RegistrySlot) → x.is_open ≡ true → filter is_open (x ∷ xs) ≡ x ∷ filter is_open xs
kept-first x xs o = rw o refl

again-first : (x : RegistrySlot) (xs : List RegistrySlot) → x.is_open ≡ true → filter is_open xs ≡ xs
    → filter is_open (x ∷ xs) ≡ x ∷ xs
again-first x xs o h = kept-first x xs o ∙ ap (λ (l : List RegistrySlot). x ∷ l) h

pub open-again : (xs : List RegistrySlot) → filter is_open (filter is_open xs) ≡ filter is_open xs
open-again [] = refl
open-again (x ∷ xs) =
    let more = open-again xs in
    either-way (filter is_open (filter is_open (x ∷ xs)) ≡ filter is_open (x ∷ xs)) x
    (λ o. ap (filter is_open) (kept-first x xs o) ∙ again-first x (filter is_open xs) o more ∙ sym (kept-first x xs o))
    (λ o. rw o more)

pub open-kept : (xs : List RegistrySlot) → open_in (filter is_open xs) ≡ open_in xs
open-kept xs = ap (map (λ (s : RegistrySlot). s.registry)) (open-again xs)

pub length-open : (xs : List RegistrySlot) → length (open_in xs) ≡ length (filter is_open xs)
length-open xs = length-map (filter is_open xs) (λ (s : RegistrySlot). s.registry)

pub settled-kept : (k : ℕ) (xs : List RegistrySlot)
    → open_in (take (count_by is_open (take k xs)) (filter is_open xs)) ≡ open_in (take k xs)
settled-kept k xs =
    let parts : filter is_open xs ≡ filter is_open (take k xs) ++ filter is_open (drop k xs) =
    ap (filter is_open) (sym (take-append-drop k xs)) ∙ filter-append is_open (take k xs) (drop k xs) in
    let front : take (count_by is_open (take k xs)) (filter is_open xs) ≡ filter is_open (take k xs) =
    ap (take (count_by is_open (take k xs))) parts
    ∙ take_at (filter is_open (take k xs)) (filter is_open (drop k xs)) (count_by is_open (take k xs))
    (length-filter is_open (take k xs)) in
    ap open_in front ∙ open-kept (take k xs)

pub few-kept : (k : ℕ) (xs : List RegistrySlot) → count_by is_open (take k xs) ≤ length (filter is_open xs)
few-kept k xs =
    let parts : length (filter is_open xs) ≡ length (filter is_open (take k xs)) + length (filter is_open (drop k xs)) =
    ap (λ (l : List RegistrySlot). length (filter is_open l)) (sym (take-append-drop k xs))
    ∙ ap length (filter-append is_open (take k xs) (drop k xs))
    ∙ length-append (filter is_open (take k xs)) (filter is_open (drop k xs)) in
    omega (arith, parts, length-filter is_open (take k xs))

pub rise-kept : (low : ℕ) (xs : List RegistrySlot) → SlotsRise low xs → SlotsRise low (filter is_open xs)
rise-kept low [] r = tt
rise-kept low (x ∷ xs) r =
    let more = rise-kept (suc (birth_in x)) xs r.1 in
    either-way (SlotsRise low (filter is_open (x ∷ xs))) x
    (λ o. rw o (r.0, more))
    (λ o. rw o (rise-from (suc (birth_in x)) low (filter is_open xs) (omega (arith, r.0)) more))

pub past-kept : (xs : List RegistrySlot) → past_of (filter is_open xs) ≤ past_of xs
past-kept [] = omega arith
past-kept (x ∷ xs) =
    let more = past-kept xs in
    either-way (past_of (filter is_open (x ∷ xs)) ≤ past_of (x ∷ xs)) x
    (λ o. rw o (omega (arith, more)))
    (λ o. rw o (omega (arith, more)))

-- ---- the search for a birth

higher : (birth a b : ℕ) → a ≤ b → ordering_index (nat_cmp a birth) ≤ ordering_index (nat_cmp b birth)
higher birth a b l = grind (arith, nat_tests)

rising : (low : ℕ) (xs : List RegistrySlot) (i j : ℕ) (d : RegistrySlot) → SlotsRise low xs → i ≤ j → j < length xs
    → birth_in (get_or xs i d) ≤ birth_in (get_or xs j d)
rising low [] i j d r l m = absurd (omega (arith, m))
rising low (x ∷ xs) zero zero d r l m = omega arith
rising low (x ∷ xs) zero (suc j) d r l m =
    let behind : suc (birth_in x) ≤ birth_in (get_or xs j d) =
    at-least (suc (birth_in x)) xs j (get_or xs j d) r.1 (omega (arith, m))
    (sym (get_or_default xs j (get_or xs j d) d (omega (arith, m)))) in omega (arith, behind)
rising low (x ∷ xs) (suc i) zero d r l m = absurd (omega (arith, l))
rising low (x ∷ xs) (suc i) (suc j) d r l m =
    rising (suc (birth_in x)) xs i j d r.1 (omega (arith, l)) (omega (arith, m))

-- reading a slot twice gives the same slot
pub same-slot : (xs : List RegistrySlot) (i : ℕ) (s u : RegistrySlot) → i < length xs → s ≡ get_or xs i s → u ≡ get_or xs i u → s ≡ u
same-slot xs i s u l e d = e ∙ get_or_default xs i s u l ∙ sym d

-- no two slots have the same birth
pub one-slot : (low : ℕ) (xs : List RegistrySlot) (i k : ℕ) (s x : RegistrySlot) → SlotsRise low xs → i < length xs
    → k < length xs → s ≡ get_or xs i s → x ≡ get_or xs k x → birth_in s ≡ birth_in x → s ≡ x
one-slot low [] i k s x r l m e d b = absurd (omega (arith, l))
one-slot low (y ∷ xs) zero zero s x r l m e d b = e ∙ sym d
one-slot low (y ∷ xs) zero (suc k) s x r l m e d b =
    let behind = at-least (suc (birth_in y)) xs k x r.1 (omega (arith, m)) d in
    absurd (omega (arith, behind, ap birth_in e, b))
one-slot low (y ∷ xs) (suc i) zero s x r l m e d b =
    let behind = at-least (suc (birth_in y)) xs i s r.1 (omega (arith, l)) e in
    absurd (omega (arith, behind, ap birth_in d, b))
one-slot low (y ∷ xs) (suc i) (suc k) s x r l m e d b =
    one-slot (suc (birth_in y)) xs i k s x r.1 (omega (arith, l)) (omega (arith, m)) e d b

-- if the slot with this birth has another id, nothing is removed
pub other-id : (object : Object) (low : ℕ) (xs : List RegistrySlot) (i : ℕ) (s : RegistrySlot) → SlotsRise low xs
    → i < length xs → s ≡ get_or xs i s → birth_in s ≡ object.birth → s.registry.object.id ≢ object.id
    → open_in xs ≡ without_object true object (open_in xs)
other-id object low xs i s r l e b n =
    without-other object xs (λ k x m d is.
    let same : s ≡ x = one-slot low xs i k s x r l m e d (b ∙ sym (ap (λ (o : Object). o.birth) is)) in
    n (ap (λ (y : RegistrySlot). y.registry.object.id) same ∙ ap (λ (o : Object). o.id) is))

-- the result of the search
abbrev pub IsAnswer : ℕ → List RegistrySlot → Result ℕ ℕ → Type 0
IsAnswer birth xs r = IsBinarySearchResult (λ s. nat_cmp (birth_in s) birth) xs r

pub found : (birth : ℕ) (xs : List RegistrySlot) (i : ℕ) (s : RegistrySlot) → IsAnswer birth xs (Ok i) → s ≡ get_or xs i s
    → birth_in s ≡ birth
found birth xs i s h e =
    ap birth_in e ∙ subst (λ o. MatchOrdering o (birth_in (get_or xs i s) < birth)
    (birth_in (get_or xs i s) ≡ birth) (birth < birth_in (get_or xs i s)))
    (h s) (ranks (birth_in (get_or xs i s)) birth)

pub not-found : (object : Object) (low : ℕ) (xs : List RegistrySlot) (i : ℕ) → SlotsRise low xs
    → IsAnswer object.birth xs (Err i) → open_in xs ≡ without_object true object (open_in xs)
not-found object low xs i r h =
    let birth = object.birth in
    let parted = h (λ a b d l m. higher birth (birth_in (get_or xs a d)) (birth_in (get_or xs b d))
    (rising low xs a b d r l m)) in
    without-other object xs (λ k x l e is. let same = ap (λ (o : Object). o.birth) is in
    elim (cases_lt k i) as (λ _. ⊥) [
      | inl before ↦ (let less = subst (λ o. MatchOrdering o (birth_in (get_or xs k x) < birth)
          (birth_in (get_or xs k x) ≡ birth) (birth < birth_in (get_or xs k x)))
          (parted.0 k x (omega arith) before) (ranks (birth_in (get_or xs k x)) birth) in
          omega (arith, less, ap birth_in e, same))
      | inr behind ↦ (let more = subst (λ o. MatchOrdering o (birth_in (get_or xs k x) < birth)
          (birth_in (get_or xs k x) ≡ birth) (birth < birth_in (get_or xs k x)))
          (parted.1 k x behind l) (ranks (birth_in (get_or xs k x)) birth) in
          omega (arith, more, ap birth_in e, same))
    ])

-- ---- an event is sent to a registry

-- how many of the slots before a place are open
abbrev pub before : ℕ → List RegistrySlot → ℕ
before i xs = length (open_in (take i xs))

pub rise-open : (low high : ℕ) (xs : List RegistrySlot) → SlotsRise low xs → low ≤ high → past_of xs ≤ high
    → RiseFrom low high (open_in xs)
rise-open low high [] r l p = l
rise-open low high (x ∷ xs) r l p =
    let rest = rise-open (suc (birth_in x)) high xs r.1 (omega (arith, p)) (omega (arith, p)) in
    let more =
    rise-open low high xs (rise-from (suc (birth_in x)) low xs (omega (arith, r.0)) r.1) l (omega (arith, p)) in
    either-way (RiseFrom low high (open_in (x ∷ xs))) x (λ o. rw o (r.0, rest)) (λ o. rw o more)

-- the registry of an open slot comes right after those of the slots before it
pub open-place : (xs : List RegistrySlot) (i : ℕ) (s : RegistrySlot) → i < length xs → s ≡ get_or xs i s → s.is_open ≡ true
    → before i xs < length (open_in xs)
open-place [] i s l e o = absurd (omega (arith, l))
open-place (x ∷ xs) zero s l e o = let there : x.is_open ≡ true = ap is_open (sym e) ∙ o in rw there (omega arith)
open-place (x ∷ xs) (suc i) s l e o =
    let more = open-place xs i s (omega (arith, l)) e o in
    either-way (before (suc i) (x ∷ xs) < length (open_in (x ∷ xs))) x
    (λ k. rw k (omega (arith, more))) (λ k. rw k more)

pub open-is : (xs : List RegistrySlot) (i : ℕ) (s : RegistrySlot) → i < length xs → s ≡ get_or xs i s → s.is_open ≡ true
    → s.registry ≡ get_or (open_in xs) (before i xs) s.registry
open-is [] i s l e o = absurd (omega (arith, l))
open-is (x ∷ xs) zero s l e o =
    let there : x.is_open ≡ true = ap is_open (sym e) ∙ o in rw there (ap (λ (y : RegistrySlot). y.registry) e)
open-is (x ∷ xs) (suc i) s l e o =
    let more = open-is xs i s (omega (arith, l)) e o in
    either-way (s.registry ≡ get_or (open_in (x ∷ xs)) (before (suc i) (x ∷ xs)) s.registry) x
    (λ k. rw k more) (λ k. rw k more)

pub open-set : (xs : List RegistrySlot) (i : ℕ) (s t : RegistrySlot) → i < length xs → s ≡ get_or xs i s → s.is_open ≡ true
    → t.is_open ≡ true → open_in (set xs i t) ≡ set (open_in xs) (before i xs) t.registry
open-set [] i s t l e o u = absurd (omega (arith, l))
open-set (x ∷ xs) zero s t l e o u =
    let there : x.is_open ≡ true = ap is_open (sym e) ∙ o in rw (there, u) refl
open-set (x ∷ xs) (suc i) s t l e o u =
    let more = open-set xs i s t (omega (arith, l)) e o u in
    either-way (open_in (x ∷ set xs i t) ≡ set (open_in (x ∷ xs)) (before (suc i) (x ∷ xs)) t.registry) x
    (λ k. rw k (ap (λ (l : List Registry). x.registry ∷ l) more)) (λ k. rw k more)

drop-next : (xs : List RegistrySlot) (i : ℕ) (s : RegistrySlot) → i < length xs → s ≡ get_or xs i s
    → drop i xs ≡ s ∷ drop (i + 1) xs
drop-next xs i s l e = rw (drop-cons xs i s l, ← e, add-one) refl

pub drop-open : (xs : List RegistrySlot) (i : ℕ) (s : RegistrySlot) → i < length xs → s ≡ get_or xs i s → s.is_open ≡ true
    → open_in (drop i xs) ≡ s.registry ∷ open_in (drop (i + 1) xs)
drop-open xs i s l e o = ap open_in (drop-next xs i s l e) ∙ open-first s (drop (i + 1) xs) o

pub drop-closed : (xs : List RegistrySlot) (i : ℕ) (s : RegistrySlot) → i < length xs → s ≡ get_or xs i s → s.is_open ≡ false
    → open_in (drop i xs) ≡ open_in (drop (i + 1) xs)
drop-closed xs i s l e o = ap open_in (drop-next xs i s l e) ∙ closed-first s (drop (i + 1) xs) o

owed-append : (globals : List Global) (rs ms : List Registry)
    → owed_in globals (rs ++ ms) ≡ owed_in globals rs ++ owed_in globals ms
owed-append globals [] ms = refl
owed-append globals (r ∷ rs) ms =
    ap (λ (l : List Due). due_to globals r ++ l) (owed-append globals rs ms)
    ∙ sym (append_assoc (due_to globals r) (owed_in globals rs) (owed_in globals ms))

-- everything that is owed is owed to registries after the settled slots
pub owed-behind : (globals : List Global) (k : ℕ) (xs : List RegistrySlot) → owed_in globals (open_in (take k xs)) ≡ []
    → owed_in globals (open_in xs) ≡ owed_in globals (open_in (drop k xs))
owed-behind globals k xs none =
    ap (owed_in globals) (ap open_in (sym (take-append-drop k xs)) ∙ open-append (take k xs) (drop k xs))
    ∙ owed-append globals (open_in (take k xs)) (open_in (drop k xs))
    ∙ ap (λ (l : List Due). l ++ owed_in globals (open_in (drop k xs))) none

-- the next slot is settled if it is closed, or if all its registry's events were sent
pub settled-past : (globals : List Global) (xs : List RegistrySlot) (i : ℕ) (s : RegistrySlot) → i < length xs → s ≡ get_or xs i s
    → s.is_open ≡ false → owed_in globals (open_in (take i xs)) ≡ []
    → owed_in globals (open_in (take (i + 1) xs)) ≡ []
settled-past globals xs i s l e o none =
    ap (λ (k : List RegistrySlot). owed_in globals (open_in k)) (take_more xs i s l)
    ∙ (ap (owed_in globals) (open-append (take i xs) (get_or xs i s ∷ [])
    ∙ ap (λ (y : RegistrySlot). open_in (take i xs) ++ open_in (y ∷ [])) (sym e)
    ∙ ap (λ (k : List Registry). open_in (take i xs) ++ k) (closed-first s [] o))
    ∙ owed-append globals (open_in (take i xs)) [] ∙ ap (λ (l : List Due). l ++ []) none)

pub settled-told : (globals : List Global) (xs : List RegistrySlot) (i : ℕ) (t : RegistrySlot) → i < length xs → t.is_open ≡ true
    → owed_in globals (open_in (take i xs)) ≡ [] → due_to globals t.registry ≡ []
    → owed_in globals (open_in (take (i + 1) (set xs i t))) ≡ []
settled-told globals xs i t l o none due =
    ap (λ (k : List RegistrySlot). owed_in globals (open_in k)) (take_more_set xs i t l)
    ∙ (ap (owed_in globals) (open-append (take i xs) (t ∷ [])
    ∙ ap (λ (k : List Registry). open_in (take i xs) ++ k) (open-first t [] o))
    ∙ owed-append globals (open_in (take i xs)) (t.registry ∷ [])
    ∙ (λ j. none j ++ (due j ++ [])))
