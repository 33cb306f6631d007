-- Each function on views keeps a sound view sound; and the freed ids and the number of ids used
-- after each.
use Rattle.std.proofs.Common.{◌≡◌, ◌≢◌, ℕ, ◌+◌, ◌<◌, ◌≤◌, max, List, [], ◌∷◌, refl, sym, ◌∙◌, ap}
use Rattle.std.proofs.Common.{cond, Bool, true, false, length, drop, arith, lit≤, eqb, is_some}
use Rattle.std.proofs.Common.{⊎_elim, inl, inr}
use Rattle.std.proofs.lemmas.Bool.{cases_eq}
use Rattle.std.proofs.lemmas.Grind.{common_steps}
use Rattle.std.proofs.lemmas.Bool.Decides.{nat_tests}
use Rattle.std.specs.Ordering.{nat_cmp}
use Rattle.std.specs.Cmp.{nat_cmp_total}
use Rattle.std.specs.FinMap.{FinMap, get, insert, empty, len, len-insert, len-remove, get-empty}
use Rattle.std.specs.FinMap.{len-empty, empty_of_len}
use Rattle.std.specs.declared.option.Option.{Option}
use Rattle.std.specs.declared.option.Option.TheVariants.{None, Some}
use Rattle.wl_wire.specs.declared.kind.Iface.{Iface}
use Rattle.wl_object_map.specs.declared.object.Entry.{Entry}
use Rattle.wl_object_map.specs.declared.object.State.TheVariants.{Live}
use Rattle.wl_object_map.specs.View.{View, Sound, IdsOfBirths, look, is_held, is_live, lives_in}
use Rattle.wl_object_map.specs.View.{times, without, first_or, next_id, free_or_next, has_room}
use Rattle.wl_object_map.specs.View.{can_open, opening, opened_at, opened, closed, zombie}
use Rattle.wl_object_map.specs.View.{with_zombie, zombied}
use Rattle.wl_object_map.specs.Views
use Rattle.wl_object_map.specs.Views.{in_row, in_list, at_null, unused}

abbrev entry_birth : Entry → ℕ
entry_birth e = e.birth

-- an opening

pub used-opened_at : (view : View) (id : ℕ) (iface : Iface) (version : ℕ) → Sound view
    → free_or_next view id ≡ true
    → (opened_at view id iface version).used
    ≡ cond (eqb id (view.used + 1)) (view.used + 1) view.used
used-opened_at view id iface version s h =
    let f = Views.free_is view id s h in let a = f.at_most_next in
    grind (arith, common_steps, nat_tests, a)

-- a freed id is among the ids used
pub used_of_freed : (view : View) (id : ℕ) → Sound view → 0 < times id view.freed → id ≤ view.used
used_of_freed view id s h = elim (Views.place_of_id view s id) [
  | in_row e l t a b ↦ b
  | in_list l t a b ↦ b
  | at_null l t e ↦ omega arith
  | unused l t a ↦ absurd (omega arith)
]

fresh : (x : ℕ) (xs : List ℕ) → times x (x ∷ xs) ≤ 1 → times x xs ≡ 0
fresh x xs h = grind (arith, common_steps, nat_tests, h)

pub at_most_once : (view : View) (id : ℕ) → Sound view → times id view.freed ≤ 1
at_most_once view id s = elim (Views.place_of_id view s id) [
  | in_row e l t a b ↦ omega arith
  | in_list l t a b ↦ omega arith
  | at_null l t e ↦ omega arith
  | unused l t a ↦ omega arith
]

without_first : (used : ℕ) (xs : List ℕ) → ((x : ℕ) → times x xs ≤ 1)
    → without (first_or (used + 1) xs) xs ≡ drop 1 xs
without_first used [] h = refl
without_first used (x ∷ xs) h =
    let w = Views.without-absent x xs (fresh x xs (h x)) in
    grind (arith, common_steps, nat_tests, w)

-- the id that was freed last is removed from the list
pub freed-opened : (view : View) (iface : Iface) (version : ℕ) → Sound view
    → (opened view iface version).freed ≡ drop 1 view.freed
freed-opened view iface version s = without_first view.used view.freed (λ x. at_most_once view x s)

first_used : (used : ℕ) (xs : List ℕ) → ((x : ℕ) → 0 < times x xs → x ≤ used)
    → max used (first_or (used + 1) xs) ≡ cond (eqb (length xs) 0) (used + 1) used
first_used used [] h = grind (arith, common_steps, nat_tests)
first_used used (x ∷ xs) h = let b = h x in grind (arith, common_steps, nat_tests, b)

-- a new id is used only if none was free
pub used-opened : (view : View) (iface : Iface) (version : ℕ) → Sound view
    → (opened view iface version).used ≡ cond (eqb (length view.freed) 0) (view.used + 1) view.used
used-opened view iface version s = first_used view.used view.freed (λ x. used_of_freed view x s)

-- the ids of births, after one more birth
abbrev id_with : (ℕ → ℕ) → ℕ → ℕ → ℕ → ℕ
id_with id_of births id birth = cond (eqb birth births) id (id_of birth)

id_with-new : (id_of : ℕ → ℕ) (births id birth : ℕ) → birth ≡ births
    → id_with id_of births id birth ≡ id
id_with-new id_of births id birth h = grind (arith, common_steps, nat_tests, h)

id_with-old : (id_of : ℕ → ℕ) (births id birth : ℕ) → birth < births
    → id_with id_of births id birth ≡ id_of birth
id_with-old id_of births id birth h = grind (arith, common_steps, nat_tests, h)

ids-opened_at : (view : View) (id : ℕ) (iface : Iface) (version : ℕ) → Sound view
    → 0 < id → id ≤ view.used + 1 → IdsOfBirths (opened_at view id iface version)
ids-opened_at view id iface version s null top =
    let ids = s.ids in
    let new = id_with-new ids.id_of view.births id in
    let old = id_with-old ids.id_of view.births id in
    record {
      id_of = id_with ids.id_of view.births id;
      used = λ b h. elim (cases_eq b view.births) [
        | inl p ↦
            (let n = new b p in
            (omega (arith, n, null), grind (arith, common_steps, nat_tests, n)))
        | inr p ↦
            (let l : b < view.births = omega (arith, p, h) in
            let u = ids.used b l in let o = old b l in
            let a = u.0 in let c = u.1 in
            (omega (arith, o, a), grind (arith, common_steps, nat_tests, o, c)))
      ];
      given = λ q a b. elim (cases_eq q id) [
        | inl p ↦ (view.births, (omega arith, new view.births refl ∙ sym p))
        | inr p ↦
            (let l : q ≤ view.used = grind (arith, common_steps, nat_tests, b, top, p) in
            let g = ids.given q a l in let m = g.1.0 in
            (g.0, (omega (arith, m), old g.0 g.1.0 ∙ g.1.1)))
      ];
      rows = λ q e at. ⊎_elim
          (λ n. new e.birth (ap entry_birth n.1) ∙ sym n.0)
          (λ o. old e.birth (s.born q e o.1) ∙ ids.rows q e o.1)
          (Views.row-opened_at view id iface version q e at);
    }

-- an opening at an id from 2 to one past the ids used keeps a view sound, if rows and freed ids
-- together then number the ids used
Sound-put : (view : View) (id : ℕ) (iface : Iface) (version : ℕ) → Sound view
    → 0 < id → id ≤ view.used + 1 → id ≢ 1 → has_room view id ≡ true
    → len (opened_at view id iface version).rows + length (without id view.freed)
    ≡ max view.used id
    → Sound (opened_at view id iface version)
Sound-put view id iface version s null top other room count =
    let row = Views.look-opened_at view id iface version in
    let place = Views.places-opened_at view id iface version in
    record {
      once = λ q a b.
          let p = place q in let o = s.once q a in
          grind (arith, common_steps, nat_tests, p, o, b, top);
      no_other =
          let p = place 0 in let o = s.no_other in
          grind (arith, common_steps, nat_tests, p, o, null);
      no_further = λ q a.
          let p = place q in let o = s.no_further q in
          grind (arith, common_steps, nat_tests, p, o, a);
      count = count;
      one_birth = λ p q e d at_p at_q same. ⊎_elim
          (λ new_p. ⊎_elim
          (λ new_q. new_p.0 ∙ sym new_q.0)
          (λ old_q.
          let b = s.born q d old_q.1 in let n = ap entry_birth new_p.1 in
          absurd (omega (arith, same)))
          (Views.row-opened_at view id iface version q d at_q))
          (λ old_p. ⊎_elim
          (λ new_q.
          let b = s.born p e old_p.1 in let n = ap entry_birth new_q.1 in
          absurd (omega (arith, same)))
          (λ old_q. s.one_birth p q e d old_p.1 old_q.1 same)
          (Views.row-opened_at view id iface version q d at_q))
          (Views.row-opened_at view id iface version p e at_p);
      born = λ q e at. ⊎_elim
          (λ new. let n = ap entry_birth new.1 in omega arith)
          (λ old. let b = s.born q e old.1 in omega arith)
          (Views.row-opened_at view id iface version q e at);
      ids = ids-opened_at view id iface version s null top;
      display = (
        s.display.0,
        row 1 ∙ grind (common_steps, arith, nat_tests, s.display.1, other),
      );
      ids_end = let e = s.ids_end in grind (arith, common_steps, nat_tests, room, e);
      births_end = grind (arith, common_steps, nat_tests, room);
    }

-- an opening at a freed or the next id keeps a view sound
pub Sound-opened_at : (view : View) (id : ℕ) (iface : Iface) (version : ℕ) → Sound view
    → free_or_next view id ≡ true → has_room view id ≡ true
    → Sound (opened_at view id iface version)
Sound-opened_at view id iface version s free room =
    let f = Views.free_is view id s free in
    Sound-put view id iface version s f.above_null f.at_most_next
    (Views.free_not_display view id s free) room
    (let u = used-opened_at view id iface version s free in
    let top = f.at_most_next in
    let c = s.count in let l = f.listed in let n = ap is_some f.no_row in
    let k = len-insert nat_cmp_total view.rows id
    (record { birth = view.births; iface = iface; version = version; state = Live }) in
    let w = Views.length-without id view.freed in
    grind (arith, common_steps, nat_tests, c, l, n, k, w, u, top))

-- an id with a row is among the ids used, and not freed
pub held_place : (view : View) (id : ℕ) → Sound view → is_held view id ≡ true
    → (times id view.freed ≡ 0) × ((0 < id) × (id ≤ view.used))
held_place view id s held = elim (Views.place_of_id view s id) [
  | in_row e l t a b ↦ (t, (a, b))
  | in_list l t a b ↦ let no : false ≡ true = sym (ap is_some l) ∙ held in cc
  | at_null l t e ↦ let no : false ≡ true = sym (ap is_some l) ∙ held in cc
  | unused l t a ↦ let no : false ≡ true = sym (ap is_some l) ∙ held in cc
]

-- so an opening there changes neither the freed ids nor the number of ids used
pub freed-reopened : (view : View) (id : ℕ) (iface : Iface) (version : ℕ) → Sound view
    → is_held view id ≡ true → (opened_at view id iface version).freed ≡ view.freed
freed-reopened view id iface version s held =
    Views.without-absent id view.freed (held_place view id s held).0

pub used-reopened : (view : View) (id : ℕ) (iface : Iface) (version : ℕ) → Sound view
    → is_held view id ≡ true → (opened_at view id iface version).used ≡ view.used
used-reopened view id iface version s held =
    let b = (held_place view id s held).1.1 in grind (arith, common_steps, nat_tests, b)

-- an opening in place of an id's row keeps a view sound
pub Sound-reopened : (view : View) (id : ℕ) (iface : Iface) (version : ℕ) → Sound view
    → is_held view id ≡ true → id ≢ 1 → has_room view id ≡ true
    → Sound (opened_at view id iface version)
Sound-reopened view id iface version s held other room =
    let p = held_place view id s held in
    Sound-put view id iface version s p.1.0
    (let b = p.1.1 in omega (arith, b)) other room
    (let c = s.count in let b = p.1.1 in
    let k = len-insert nat_cmp_total view.rows id
    (record { birth = view.births; iface = iface; version = version; state = Live }) in
    let f = ap (length {A = ℕ}) (freed-reopened view id iface version s held) in
    grind (arith, common_steps, nat_tests, c, k, f, b, held))

-- an opening at the next id keeps a view sound
pub Sound-opened : (view : View) (iface : Iface) (version : ℕ) → Sound view → can_open view ≡ true
    → Sound (opened view iface version)
Sound-opened view iface version s room =
    Sound-opened_at view (next_id view) iface version s (Views.free_or_next-next_id view) room

row-opening : (display : Iface) (q : ℕ) (e : Entry) → look (opening display) q ≡ Some e
    → (q ≡ 1) × (e ≡ record { birth = 0; iface = display; version = 1; state = Live })
row-opening display q e h = ⊎_elim
    (λ p. (Views.eqb_is q 1 p.0, sym (Views.some_is _ e p.1)))
    (λ p. let no = p.1 in cc)
    (Views.cases_row (eqb q 1)
    (Some (record { birth = 0; iface = display; version = 1; state = Live })) None e
    (sym (Views.look-opening display q) ∙ h))

one_entry : (k : ℕ) (e : Entry) → len (insert (empty {R = nat_cmp}) k e) ≡ 1
one_entry k e =
    len-insert nat_cmp_total empty k e
    ∙ ap (λ o. cond (is_some o) (len (empty {X = Entry} {R = nat_cmp}))
    (len (empty {X = Entry} {R = nat_cmp}) + 1)) (get-empty nat_cmp k)
    ∙ ap (λ n. n + 1) (len-empty nat_cmp Entry)

-- a new table has one row
pub len-opening : (display : Iface) → len (opening display).rows ≡ 1
len-opening display = one_entry 1 (record { birth = 0; iface = display; version = 1; state = Live })

-- a new table is sound
pub Sound-opening : (display : Iface) → Sound (opening display)
Sound-opening display =
    let row = Views.look-opening display in
    let held = λ (q : ℕ). ap is_some (row q) in
    record {
      once = λ q a b. let h = held q in grind (arith, common_steps, nat_tests, h, a, b);
      no_other = let h = held 0 in grind (arith, common_steps, nat_tests, h);
      no_further = λ q a. let h = held q in grind (arith, common_steps, nat_tests, h, a);
      count = ap (λ n. n + 0) (len-opening display);
      one_birth = λ p q e d at_p at_q same.
          (row-opening display p e at_p).0 ∙ sym (row-opening display q d at_q).0;
      born = λ q e at. let b = ap entry_birth (row-opening display q e at).1 in omega arith;
      ids = record {
        id_of = λ birth. 1;
        used = λ b h. (lit≤ tt, lit≤ tt);
        given = λ q a b. (0, (lit≤ tt, omega (arith, a, b)));
        rows = λ q e at. sym (row-opening display q e at).0;
      };
      display = (display, row 1);
      ids_end = lit≤ tt;
      births_end = lit≤ tt;
    }

-- a map that has a key is not empty
pub held_len : (m : FinMap nat_cmp Entry) (k : ℕ) → is_some (get m k) ≡ true → 0 < len m
held_len m k h = ⊎_elim
    (λ e.
    let w : is_some (get m k) ≡ false =
    ap (λ n. is_some (get n k)) (empty_of_len m e) ∙ ap is_some (get-empty nat_cmp k) in
    let no : true ≡ false = sym h ∙ w in cc)
    (λ ne. omega arith)
    (cases_eq (len m) 0)

-- there is always a row: that of id 1
pub some_row : (view : View) → Sound view → 0 < len view.rows
some_row view s = held_len view.rows 1 (ap is_some s.display.1)

-- closing keeps a view sound
pub Sound-closed : (view : View) (id : ℕ) → Sound view → is_held view id ≡ true → id ≢ 1
    → Sound (closed view id)
Sound-closed view id s held other =
    let place = λ (q : ℕ). Views.places-closed view id q held in
    record {
      once = λ q a b. place q ∙ s.once q a b;
      no_other = place 0 ∙ s.no_other;
      no_further = λ q a. place q ∙ s.no_further q a;
      count =
          let c = s.count in let k = len-remove nat_cmp_total view.rows id in
          let some = held_len view.rows id held in grind (arith, common_steps, c, k, some, held);
      one_birth = λ p q e d at_p at_q same.
          s.one_birth p q e d
          (Views.row-closed view id p e at_p).1 (Views.row-closed view id q d at_q).1 same;
      born = λ q e at. s.born q e (Views.row-closed view id q e at).1;
      ids = let i = s.ids in record {
        id_of = i.id_of;
        used = i.used;
        given = i.given;
        rows = λ q e at. i.rows q e (Views.row-closed view id q e at).1;
      };
      display = (
        s.display.0,
        Views.look-closed view id 1
            ∙ grind (common_steps, arith, nat_tests, s.display.1, other),
      );
      ids_end = s.ids_end;
      births_end = s.births_end;
    }

len-with_zombie : (rows : FinMap nat_cmp Entry) (id : ℕ) (o : Option Entry) → get rows id ≡ o
    → len (with_zombie rows id o) ≡ len rows
len-with_zombie rows id None e = refl
len-with_zombie rows id (Some d) e =
    len-insert nat_cmp_total rows id (zombie d)
    ∙ ap (λ b. cond b (len rows) (len rows + 1)) (ap is_some e)

-- zombie-making keeps the number of rows
pub len-zombied : (view : View) (id : ℕ) → len (zombied view id).rows ≡ len view.rows
len-zombied view id = len-with_zombie view.rows id (look view id) refl

same_birth : (b : Bool) (d : Entry) → entry_birth (cond b (zombie d) d) ≡ entry_birth d
same_birth true d = refl
same_birth false d = refl

live_some : (o : Option Entry) → lives_in o ≡ true → is_some o ≡ true
live_some None h = h
live_some (Some e) h = refl

-- a live id has a row
pub lives_held : (view : View) (id : ℕ) → is_live view id ≡ true → is_held view id ≡ true
lives_held view id h = live_some (look view id) h

-- zombie-making keeps a view sound
pub Sound-zombied : (view : View) (id : ℕ) → Sound view → id ≢ 1 → Sound (zombied view id)
Sound-zombied view id s other =
    let place = Views.places-zombied view id in
    record {
      once = λ q a b. place q ∙ s.once q a b;
      no_other = place 0 ∙ s.no_other;
      no_further = λ q a. place q ∙ s.no_further q a;
      count = ap (λ n. n + length view.freed) (len-zombied view id) ∙ s.count;
      one_birth = λ p q e d at_p at_q same.
          let z = Views.row-zombied view id p e at_p in
          let w = Views.row-zombied view id q d at_q in
          s.one_birth p q z.0 w.0 z.1.0 w.1.0
          (sym (ap entry_birth z.1.1 ∙ same_birth (eqb p id) z.0)
          ∙ same ∙ (ap entry_birth w.1.1 ∙ same_birth (eqb q id) w.0));
      born = λ q e at.
          let z = Views.row-zombied view id q e at in
          let b = s.born q z.0 z.1.0 in
          let n : entry_birth e ≡ entry_birth z.0 = ap entry_birth z.1.1
          ∙ same_birth (eqb q id) z.0 in
          omega arith;
      ids = let i = s.ids in record {
        id_of = i.id_of;
        used = i.used;
        given = i.given;
        rows = λ q e at.
            let z = Views.row-zombied view id q e at in
            ap i.id_of (ap entry_birth z.1.1 ∙ same_birth (eqb q id) z.0) ∙ i.rows q z.0 z.1.0;
      };
      display = (
        s.display.0,
        Views.look-zombied view id 1
            ∙ grind (common_steps, arith, nat_tests, s.display.1, other),
      );
      ids_end = s.ids_end;
      births_end = s.births_end;
    }
