-- Laws of the functions on views: an id's row after each, and the places where the id then occurs.
use Rattle.std.proofs.Common.{◌≡◌, ◌≢◌, ◌⊎◌, inl, inr, ℕ, ◌+◌, ◌<◌, ◌≤◌, List, [], ◌∷◌, refl, sym}
use Rattle.std.proofs.Common.{◌∙◌, ap, cond, Bool, true, false, not, ◌&&◌, ◌||◌, length, arith, eqb}
use Rattle.std.proofs.Common.{ltb, leb, is_some, ⊎_elim}
use Rattle.std.proofs.lemmas.Bool.{cases_eq, cases_lt}
use Rattle.std.proofs.lemmas.Grind.{common_steps}
use Rattle.std.proofs.lemmas.Bool.Decides.{nat_tests}
use Rattle.std.specs.Ordering.{nat_cmp, eq_by_cmp}
use Rattle.std.specs.Cmp.{nat_cmp_total}
use Rattle.std.specs.Option.{option_map}
use Rattle.std.specs.FinMap.{FinMap, get, insert, remove, empty, get-insert, get-remove, len-insert}
use Rattle.std.specs.FinMap.{len-remove, get-empty}
use Rattle.std.specs.declared.option.Option.{Option}
use Rattle.std.specs.declared.option.Option.TheVariants.{None, Some}
use Rattle.wl_wire.specs.declared.kind.Iface.{Iface}
use Rattle.wl_object_map.specs.declared.object.Entry.{Entry}
use Rattle.wl_object_map.specs.declared.object.State.TheVariants.{Live}
use Rattle.wl_object_map.specs.View.{View, Sound, look, is_held, times, places, without, first_or}
use Rattle.wl_object_map.specs.View.{next_id, free_or_next, opening, opened_at, closed, zombie}
use Rattle.wl_object_map.specs.View.{with_zombie, zombied}

-- Finite maps, by keys that are numbers.

tie : (a b : ℕ) → eq_by_cmp nat_cmp a b ≡ eqb a b
tie a b = grind (arith, common_steps, nat_tests)

pub get_put : {X : Type 0} (m : FinMap nat_cmp X) (k : ℕ) (x : X) (q : ℕ)
    → get (insert m k x) q ≡ cond (eqb q k) (Some x) (get m q)
get_put m k x q = get-insert nat_cmp_total m k x q ∙ ap (λ b. cond b (Some x) (get m q)) (tie q k)

pub get_gone : {X : Type 0} (m : FinMap nat_cmp X) (k q : ℕ)
    → get (remove m k) q ≡ cond (eqb q k) None (get m q)
get_gone m k q = get-remove nat_cmp_total m k q ∙ ap (λ b. cond b None (get m q)) (tie q k)

ruleset steps =
    (get_put, get_gone, len-insert, len-remove, nat_cmp_total, nat_tests, common_steps, arith)

-- An id's row after each change.

-- only wl_display has a row
pub look-opening : (display : Iface) (q : ℕ)
    → look (opening display) q
    ≡ cond (eqb q 1) (Some (record { birth = 0; iface = display; version = 1; state = Live })) None
look-opening display q = get_put empty 1 _ q ∙ ap (cond (eqb q 1) _) (get-empty nat_cmp q)

-- the id has the new object's row; other rows stay
pub look-opened_at : (view : View) (id : ℕ) (iface : Iface) (version q : ℕ)
    → look (opened_at view id iface version) q
    ≡ cond (eqb q id)
    (Some (record { birth = view.births; iface = iface; version = version; state = Live }))
    (look view q)
look-opened_at view id iface version q = get_put view.rows id _ q

-- the id has no row; other rows stay
pub look-closed : (view : View) (id q : ℕ)
    → look (closed view id) q ≡ cond (eqb q id) None (look view q)
look-closed view id q = get_gone view.rows id q

look-with_zombie : (rows : FinMap nat_cmp Entry) (id q : ℕ) (o : Option Entry) → get rows id ≡ o
    → get (with_zombie rows id o) q ≡ cond (eqb q id) (option_map zombie (get rows q)) (get rows q)
look-with_zombie rows id q None e = grind (steps, e)
look-with_zombie rows id q (Some d) e = grind (steps, e)

-- the id has the same row as a zombie; other rows stay
pub look-zombied : (view : View) (id q : ℕ)
    → look (zombied view id) q ≡ cond (eqb q id) (option_map zombie (look view q)) (look view q)
look-zombied view id q = look-with_zombie view.rows id q (look view id) refl

-- How often an id occurs in a list.

pub times-without : (id q : ℕ) (xs : List ℕ)
    → times q (without id xs) ≡ cond (eqb q id) 0 (times q xs)
times-without id q [] = grind (arith, common_steps)
times-without id q (x ∷ xs) =
    let h = times-without id q xs in grind (arith, common_steps, nat_tests, h)

pub length-without : (id : ℕ) (xs : List ℕ) → length (without id xs) + times id xs ≡ length xs
length-without id [] = refl
length-without id (x ∷ xs) =
    let h = length-without id xs in grind (arith, common_steps, nat_tests, h)

-- removing an absent id changes nothing
pub without-absent : (id : ℕ) (xs : List ℕ) → times id xs ≡ 0 → without id xs ≡ xs
without-absent id [] e = refl
without-absent id (x ∷ xs) e =
    let h = without-absent id xs in grind (arith, common_steps, nat_tests, h, e)

-- The places of an id.

-- it has a row, or is freed once, or neither
pub data Place (view : View) (id : ℕ) : Type 0 where
  in_row : (e : Entry) → look view id ≡ Some e → times id view.freed ≡ 0
      → 0 < id → id ≤ view.used → Place view id
  in_list : look view id ≡ None → times id view.freed ≡ 1 → 0 < id → id ≤ view.used → Place view id
  at_null : look view id ≡ None → times id view.freed ≡ 0 → id ≡ 0 → Place view id
  unused : look view id ≡ None → times id view.freed ≡ 0 → view.used < id → Place view id

used_place : (view : View) (id : ℕ) (o : Option Entry) (t : ℕ)
    → look view id ≡ o → times id view.freed ≡ t → cond (is_some o) 1 0 + t ≡ 1
    → 0 < id → id ≤ view.used → Place view id
used_place view id None t l f e a b = in_list l (f ∙ omega arith) a b
used_place view id (Some d) t l f e a b = in_row d l (f ∙ omega arith) a b

other_place : (o : Option Entry) (t : ℕ) → cond (is_some o) 1 0 + t ≡ 0 → (o ≡ None) × (t ≡ 0)
other_place None t e = (refl, omega arith)
other_place (Some d) t e = absurd (omega arith)

pub place_of_id : (view : View) → Sound view → (id : ℕ) → Place view id
place_of_id view s id = ⊎_elim
    (λ null.
    let o = other_place (look view id) (times id view.freed) (ap (places view) null ∙ s.no_other) in
    at_null o.0 o.1 null)
    (λ some. ⊎_elim
    (λ far.
    let o = other_place (look view id) (times id view.freed) (s.no_further id far) in
    unused o.0 o.1 far)
    (λ near. used_place view id _ _ refl refl (s.once id (omega arith) near) (omega arith) near)
    (cases_lt view.used id))
    (cases_eq id 0)

-- Freed or next.

-- an id at which an object can be opened: it has no row, is from 1 to one past the ids used, and
-- occurs once among the freed ids if it was used
pub record IsFree (view : View) (id : ℕ) : Type 0 where
  pub no_row : look view id ≡ None
  pub above_null : 0 < id
  pub at_most_next : id ≤ view.used + 1
  pub listed : times id view.freed ≡ cond (leb id view.used) 1 0

-- an id is freed or next if and only if it has no row and is from 1 to one past the ids used
pub free_or_next-rows : (view : View) (id : ℕ) → Sound view
    → free_or_next view id ≡ (not (is_held view id) && (ltb 0 id && leb id (view.used + 1)))
free_or_next-rows view id s = elim (place_of_id view s id) [
  | in_row e l t a b ↦ let h = ap is_some l in grind (arith, common_steps, nat_tests, h, t, a, b)
  | in_list l t a b ↦ let h = ap is_some l in grind (arith, common_steps, nat_tests, h, t, a, b)
  | at_null l t e ↦ let h = ap is_some l in grind (arith, common_steps, nat_tests, h, t, e)
  | unused l t a ↦ let h = ap is_some l in grind (arith, common_steps, nat_tests, h, t, a)
]

pub free_is : (view : View) (id : ℕ) → Sound view → free_or_next view id ≡ true → IsFree view id
free_is view id s h = elim (place_of_id view s id) [
  | in_row e l t a b ↦ let no : false ≡ true = grind (arith, common_steps, nat_tests, h, t, b) in cc
  | in_list l t a b ↦ record {
    no_row = l;
    above_null = a;
    at_most_next = omega arith;
    listed = grind (arith, common_steps, nat_tests, t, b);
  }
  | at_null l t e ↦ let no : false ≡ true = grind (arith, common_steps, nat_tests, h, t, e) in cc
  | unused l t a ↦
      let e : id ≡ view.used + 1 = grind (arith, common_steps, nat_tests, h, t) in
      record {
        no_row = l;
        above_null = omega arith;
        at_most_next = omega arith;
        listed = grind (arith, common_steps, nat_tests, t, a);
      }
]

-- so an id without a row, from 1 to one past the ids used, is freed or next
pub unheld_is_free : (view : View) (id : ℕ) → Sound view → look view id ≡ None → 0 < id
    → id ≤ view.used + 1 → free_or_next view id ≡ true
unheld_is_free view id s l a b =
    let h = ap is_some l in
    free_or_next-rows view id s ∙ grind (arith, common_steps, nat_tests, h, a, b)

first_is_free : (used : ℕ) (xs : List ℕ)
    → (ltb 0 (times (first_or (used + 1) xs) xs) || eqb (first_or (used + 1) xs) (used + 1)) ≡ true
first_is_free used [] = grind (arith, common_steps, nat_tests)
first_is_free used (x ∷ xs) = grind (arith, common_steps, nat_tests)

-- the next id is freed or next
pub free_or_next-next_id : (view : View) → free_or_next view (next_id view) ≡ true
free_or_next-next_id view = first_is_free view.used view.freed

-- an id that is freed or next is not wl_display's
pub free_not_display : (view : View) (id : ℕ) → Sound view → free_or_next view id ≡ true → id ≢ 1
free_not_display view id s h e =
    let f = (free_is view id s h).no_row in
    let l = sym (ap (look view) e ∙ s.display.1) ∙ f in cc

-- In how many places an id occurs after each change.

is_held-opened_at : (view : View) (id : ℕ) (iface : Iface) (version q : ℕ)
    → is_held (opened_at view id iface version) q ≡ (eqb q id || is_held view q)
is_held-opened_at view id iface version q =
    let h = ap is_some (look-opened_at view id iface version q) in grind (common_steps, arith, h)

-- the opened id is in one place; other ids stay where they were
pub places-opened_at : (view : View) (id : ℕ) (iface : Iface) (version q : ℕ)
    → places (opened_at view id iface version) q ≡ cond (eqb q id) 1 (places view q)
places-opened_at view id iface version q =
    let h = is_held-opened_at view id iface version q in
    let t = times-without id q view.freed in
    grind (common_steps, arith, h, t)

-- an id with a row moved from the rows to the freed ids
pub places-closed : (view : View) (id q : ℕ) → is_held view id ≡ true
    → places (closed view id) q ≡ places view q
places-closed view id q held =
    let h = ap is_some (look-closed view id q) in
    grind (common_steps, arith, nat_tests, h, held)

-- every id stays where it was
pub places-zombied : (view : View) (id q : ℕ) → places (zombied view id) q ≡ places view q
places-zombied view id q =
    let h = ap is_some (look-zombied view id q) in
    grind (common_steps, arith, nat_tests, h)

-- Where a row after a change comes from.

pub cases_row : {X : Type 0} (b : Bool) (o p : Option X) (e : X) → cond b o p ≡ Some e
    → ((b ≡ true) × (o ≡ Some e)) ⊎ ((b ≡ false) × (p ≡ Some e))
cases_row true o p e h = inl (refl, h)
cases_row false o p e h = inr (refl, h)

pub eqb_is : (a b : ℕ) → eqb a b ≡ true → a ≡ b
eqb_is a b h = grind (arith, nat_tests, h)

pub eqb_not : (a b : ℕ) → eqb a b ≡ false → a ≢ b
eqb_not a b h e = let no : true ≡ false = grind (arith, nat_tests, h, e) in cc

pub some_is : {X : Type 0} (x y : X) → Some x ≡ Some y → x ≡ y
some_is x y h = cc

-- a row after an opening is the new one, or was there before, at another id
pub row-opened_at : (view : View) (id : ℕ) (iface : Iface) (version q : ℕ) (e : Entry)
    → look (opened_at view id iface version) q ≡ Some e
    → ((q ≡ id)
    × (e ≡ record { birth = view.births; iface = iface; version = version; state = Live }))
    ⊎ ((q ≢ id) × (look view q ≡ Some e))
row-opened_at view id iface version q e h = ⊎_elim
    (λ p. inl (eqb_is q id p.0, sym (some_is _ e p.1)))
    (λ p. inr (eqb_not q id p.0, p.1))
    (cases_row (eqb q id)
    (Some (record { birth = view.births; iface = iface; version = version; state = Live }))
    (look view q) e (sym (look-opened_at view id iface version q) ∙ h))

-- a row after a closing was there before, at another id
pub row-closed : (view : View) (id q : ℕ) (e : Entry) → look (closed view id) q ≡ Some e
    → (q ≢ id) × (look view q ≡ Some e)
row-closed view id q e h = ⊎_elim
    (λ p. let no = p.1 in cc)
    (λ p. (eqb_not q id p.0, p.1))
    (cases_row (eqb q id) None (look view q) e (sym (look-closed view id q) ∙ h))

pub of_zombie : (b : Bool) (o : Option Entry) (e : Entry) → cond b (option_map zombie o) o ≡ Some e
    → (d : Entry) × ((o ≡ Some d) × (e ≡ cond b (zombie d) d))
of_zombie true None e h = cc
of_zombie true (Some d) e h = (d, (refl, sym (some_is _ e h)))
of_zombie false None e h = cc
of_zombie false (Some d) e h = (d, (refl, sym (some_is _ e h)))

-- a row after a zombie-making was there before, and is now a zombie's if its id is this one
pub row-zombied : (view : View) (id q : ℕ) (e : Entry) → look (zombied view id) q ≡ Some e
    → (d : Entry) × ((look view q ≡ Some d) × (e ≡ cond (eqb q id) (zombie d) d))
row-zombied view id q e h = of_zombie (eqb q id) (look view q) e (sym (look-zombied view id q) ∙ h)
