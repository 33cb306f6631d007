-- The rows of slots as a finite map, and slots after writing one and after pushing one.
use Rattle.std.proofs.Common.{◌≡◌, ◌≢◌, ℕ, zero, suc, ◌+◌, ◌-◌, ◌<◌, ◌≤◌, List, [], ◌∷◌, ◌++◌, refl}
use Rattle.std.proofs.Common.{sym, ◌∙◌, ap, cond, Bool, true, false, length, arith, eqb, leb}
use Rattle.std.proofs.Common.{⊎_elim}
use Rattle.std.proofs.lemmas.Bool.{cases_eq, cases_lt, le-leb, lt-leb, eq-eqb, ne_eqb}
use Rattle.std.proofs.lemmas.Bool.Decides.{nat_tests}
use Rattle.std.specs.Ordering.{nat_cmp}
use Rattle.std.specs.Cmp.{nat_cmp_total}
use Rattle.std.specs.FinMap.{get, insert, remove, get-empty, same_map, nat_cmp-IsAntisymmetric}
use Rattle.std.specs.Prelude.{slice_get, slice_index_or}
use Rattle.std.proofs.lemmas.Option.{slice_get_read, slice_get_within}
use Rattle.std.specs.declared.option.Option.{Option}
use Rattle.std.specs.declared.option.Option.TheVariants.{None, Some}
use Rattle.wl_object_map.specs.declared.object.Entry.{Entry}
use Rattle.wl_object_map.specs.declared.slot_table.Slot.{Slot}
use Rattle.wl_object_map.specs.declared.slot_table.Slot.TheVariants.{Row, Free}
use Rattle.wl_object_map.specs.Views.{get_put, get_gone, some_is}
use Rattle.wl_object_map.specs.Slots.{slot_at, slot_of_entry, row_at, row_in, rows_from}

-- Tests of numbers.

eq-suc : (a b c d : ℕ) → c ≡ suc a → d ≡ suc b → eqb a b ≡ eqb c d
eq-suc a b c d e f = grind (arith, nat_tests, e, f)

-- The rows.

-- no row for an id below that of the first slot, otherwise the row of its slot
abbrev row_past : ℕ → List Slot → ℕ → Option Entry
row_past id slots q = cond (leb id q) (row_in (slice_get slots (q - id))) None

no_row : (b : Bool) → None ≡ cond b (row_in None) None
no_row true = refl
no_row false = refl

-- the row of the first slot's id
at_first : (id : ℕ) (s : Slot) (slots : List Slot) (q : ℕ) → q ≡ id → row_past id (s ∷ slots) q ≡ row_in (Some s)
at_first id s slots q e =
    let none : q - id ≡ 0 = omega arith in
    ap (λ b. cond b (row_in (slice_get (s ∷ slots) (q - id))) None) (le-leb id q (omega arith))
    ∙ ap (λ n. row_in (slice_get (s ∷ slots) n)) none

-- the row of any other id
at_other : (id : ℕ) (s : Slot) (slots : List Slot) (q : ℕ) → q ≢ id
    → row_past id (s ∷ slots) q ≡ row_past (id + 1) slots q
at_other id s slots q n = ⊎_elim
    (λ below.
    ap (λ b. cond b (row_in (slice_get (s ∷ slots) (q - id))) None) (lt-leb id q below)
    ∙ sym (ap (λ b. cond b (row_in (slice_get slots (q - (id + 1)))) None) (lt-leb (id + 1) q (omega arith))))
    (λ above.
    let on : q - id ≡ suc (q - (id + 1)) = omega arith in
    ap (λ b. cond b (row_in (slice_get (s ∷ slots) (q - id))) None) (le-leb id q above)
    ∙ ap (λ n. row_in (slice_get (s ∷ slots) n)) on
    ∙ sym (ap (λ b. cond b (row_in (slice_get slots (q - (id + 1)))) None) (le-leb (id + 1) q (omega arith))))
    (cases_lt q id)

row_past-cons : (id : ℕ) (s : Slot) (slots : List Slot) (q : ℕ)
    → row_past id (s ∷ slots) q ≡ cond (eqb q id) (row_in (Some s)) (row_past (id + 1) slots q)
row_past-cons id s slots q = ⊎_elim
    (λ same. at_first id s slots q same ∙ sym (ap (λ b. cond b (row_in (Some s)) (row_past (id + 1) slots q))
    (eq-eqb q id same)))
    (λ other. at_other id s slots q other ∙ sym (ap (λ b. cond b (row_in (Some s)) (row_past (id + 1) slots q))
    (ne_eqb q id other)))
    (cases_eq q id)

none_before : (id : ℕ) (slots : List Slot) (q : ℕ) → q ≡ id → row_past (id + 1) slots q ≡ None
none_before id slots q e = ap (λ b. cond b (row_in (slice_get slots (q - (id + 1)))) None)
    (lt-leb (id + 1) q (omega arith))

free_first : (id : ℕ) (newer older : ℕ) (slots : List Slot) (q : ℕ)
    → row_past id (Free newer older ∷ slots) q ≡ row_past (id + 1) slots q
free_first id newer older slots q = ⊎_elim
    (λ same. at_first id (Free newer older) slots q same ∙ sym (none_before id slots q same))
    (λ other. at_other id (Free newer older) slots q other)
    (cases_eq q id)

get_rows_from : (id : ℕ) (slots : List Slot) (q : ℕ) → get (rows_from id slots) q ≡ row_past id slots q
get_rows_from id [] q = get-empty nat_cmp q ∙ no_row (leb id q)
get_rows_from id (Row birth version iface state ∷ slots) q =
    let e : Entry = record { birth = birth; iface = iface; version = version; state = state } in
    get_put (rows_from (id + 1) slots) id e q ∙ ap (cond (eqb q id) (Some e)) (get_rows_from (id + 1) slots q)
    ∙ sym (row_past-cons id (Row birth version iface state) slots q)
get_rows_from id (Free newer older ∷ slots) q = get_rows_from (id + 1) slots q ∙ sym (free_first id newer older slots q)

-- the row of an id
pub get_row : (slots : List Slot) (q : ℕ) → get (rows_from 1 slots) q ≡ row_at slots q
get_row slots zero = get_rows_from 1 slots 0
get_row slots (suc q) =
    let back : suc q - 1 ≡ q = omega arith in
    get_rows_from 1 slots (suc q)
    ∙ ap (λ b. cond b (row_in (slice_get slots (suc q - 1))) None) (le-leb 1 (suc q) (omega arith))
    ∙ ap (λ n. row_in (slice_get slots n)) back

-- slots that have one more row than others
pub rows_with : (old new : List Slot) (id : ℕ) (e : Entry)
    → ((q : ℕ) → row_at new q ≡ cond (eqb q id) (Some e) (row_at old q))
    → rows_from 1 new ≡ insert (rows_from 1 old) id e
rows_with old new id e h = same_map nat_cmp_total nat_cmp-IsAntisymmetric _ _ (λ q.
    get_row new q ∙ h q ∙ ap (cond (eqb q id) (Some e)) (sym (get_row old q)) ∙ sym (get_put (rows_from 1 old) id e q))

-- slots that lack one row of others
pub rows_without : (old new : List Slot) (id : ℕ) → ((q : ℕ) → row_at new q ≡ cond (eqb q id) None (row_at old q))
    → rows_from 1 new ≡ remove (rows_from 1 old) id
rows_without old new id h = same_map nat_cmp_total nat_cmp-IsAntisymmetric _ _ (λ q.
    get_row new q ∙ h q ∙ ap (cond (eqb q id) None) (sym (get_row old q)) ∙ sym (get_gone (rows_from 1 old) id q))

-- One slot.

-- the slot that was read at an id's place has the id's row
pub row_read : (slots now : List Slot) (id place : ℕ) (s : Slot)
    → now ≡ slots → 1 ≤ id → place ≡ id - 1 → place < length now → s ≡ slice_index_or now place s
    → row_in (Some s) ≡ get (rows_from 1 slots) id
row_read slots now id place s same used at within is =
    let up : id ≡ suc place = omega arith in
    let slot : slot_at slots id ≡ Some s =
    ap (slot_at slots) up ∙ ap (λ (l : List Slot). slice_get l place) (sym same)
    ∙ slice_get_read now (length now) place s refl within is in
    sym (get_row slots id ∙ ap row_in slot)

some_used : (slots : List Slot) (n : ℕ) (s : Slot) → slice_get slots n ≡ Some s → n < length slots
some_used slots n s h = slice_get_within slots n s h

-- if an id has a row, its slot holds it
pub row_slot : (o : Option Slot) (e : Entry) → row_in o ≡ Some e → o ≡ Some (slot_of_entry e)
row_slot None e h = cc
row_slot (Some (Row birth version iface state)) e h =
    ap (λ (x : Entry). Some (slot_of_entry x)) (some_is (record {
      birth = birth;
      iface = iface;
      version = version;
      state = state;
    }) e h)
row_slot (Some (Free newer older)) e h = cc

-- an id with a slot has been used
pub slot_used : (slots : List Slot) (id : ℕ) (s : Slot) → slot_at slots id ≡ Some s → (0 < id) × (id ≤ length slots)
slot_used slots zero s h = cc
slot_used slots (suc n) s h = let u = some_used slots n s h in (omega arith, omega arith)

get-push : (slots : List Slot) (s : Slot) (k : ℕ)
    → slice_get (slots ++ s ∷ []) k ≡ cond (eqb k (length slots)) (Some s) (slice_get slots k)
get-push [] s zero = refl
get-push [] s (suc k) = sym (ap (λ b. cond b (Some s) None) (ne_eqb (suc k) 0 (omega arith)))
get-push (x ∷ xs) s zero = sym (ap (λ b. cond b (Some s) (Some x)) (ne_eqb 0 (suc (length xs)) (omega arith)))
get-push (x ∷ xs) s (suc k) = get-push xs s k ∙ ap (λ b. cond b (Some s) (slice_get xs k))
    (eq-suc k (length xs) (suc k) (suc (length xs)) refl refl)

-- pushing a slot
pub slot_push : (slots : List Slot) (s : Slot) (q : ℕ)
    → slot_at (slots ++ s ∷ []) q ≡ cond (eqb q (length slots + 1)) (Some s) (slot_at slots q)
slot_push slots s zero = sym (ap (λ b. cond b (Some s) None) (ne_eqb 0 (length slots + 1) (omega arith)))
slot_push slots s (suc q) = get-push slots s q ∙ ap (λ b. cond b (Some s) (slice_get slots q))
    (eq-suc q (length slots) (suc q) (length slots + 1) refl (omega arith))
