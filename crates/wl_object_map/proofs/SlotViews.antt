-- How each call of a table of slots changes the view that the slots represent.
use Rattle.std.proofs.Common.{◌≡◌, ℕ, ◌+◌, ◌-◌, ◌<◌, ◌≤◌, max, List, [], ◌∷◌, ◌++◌, refl, sym, ◌∙◌}
use Rattle.std.proofs.Common.{ap, subst, cond, Bool, true, false, length, arith, eqb, is_some}
use Rattle.std.proofs.Common.{⊎_elim, length-append}
use Rattle.std.proofs.lemmas.Bool.{cases_eq}
use Rattle.std.proofs.lemmas.Grind.{common_steps}
use Rattle.std.proofs.lemmas.Bool.Decides.{nat_tests}
use Rattle.std.specs.FinMap.{FinMap, get}
use Rattle.std.specs.declared.option.Option.{Option}
use Rattle.std.specs.declared.option.Option.TheVariants.{Some}
use Rattle.wl_wire.specs.declared.kind.Iface.{Iface}
use Rattle.wl_object_map.specs.declared.object.Entry.{Entry}
use Rattle.wl_object_map.specs.declared.slot_table.Slot.{Slot}
use Rattle.wl_object_map.specs.declared.slot_table.Slot.TheVariants.{Free}
use Rattle.wl_object_map.specs.View.{View, Sound, is_held, times, without, free_or_next, opening}
use Rattle.wl_object_map.specs.View.{opened_at, closed, zombie, with_zombie, zombied}
use Rattle.wl_object_map.specs.Views.{times-without}
use Rattle.wl_object_map.specs.Views.{length-without, without-absent, free_or_next-rows, unheld_is_free}
use Rattle.wl_object_map.specs.Sounds.{used_of_freed, held_place, freed-reopened, used-reopened}
use Rattle.wl_object_map.specs.Slots.{slot_at, slot_of_entry, row_in, rows_from, followed, view_of, new_row}
use Rattle.wl_object_map.specs.Slots.{IsChain, IsPut, IsTakenOut, IsPutFirst, HasSameRows}
use Rattle.wl_object_map.specs.Slots.{HasNoRowAt, IsSoundChain}
use Rattle.wl_object_map.proofs.Rows.{same_view}
use Rattle.wl_object_map.proofs.Chain.{length-followed, follows, kept}
use Rattle.wl_object_map.proofs.SlotRows.{get_row, rows_with, rows_without, slot_used, slot_push}

-- The result of a change: the slots represent this view, and hold the chain of its freed ids.
pub record Becomes (slots : List Slot) (first free births : ℕ) (view : View) : Type 0 where
  pub stands_for : view_of slots first free births ≡ view
  pub chain : IsChain slots first view.freed

pub holds_of : (slots : List Slot) (first free births : ℕ) (view : View) → Becomes slots first free births view
    → Sound view → IsSoundChain slots first free births
holds_of slots first free births view b s = record {
  sound = subst Sound (sym b.stands_for) s;
  chain = subst (IsChain slots first) (sym (ap (λ (v : View). v.freed) b.stands_for)) b.chain;
}

row_put : (b : Bool) (e : Entry) (s : Option Slot) → row_in (cond b (Some (slot_of_entry e)) s)
    ≡ cond b (Some e) (row_in s)
row_put true e s = refl
row_put false e s = refl

-- an id with a row has a slot, and is not in the chain
pub row_place : (slots : List Slot) (first free births id : ℕ) → IsSoundChain slots first free births
    → is_held (view_of slots first free births) id ≡ true
    → (times id (followed free slots first) ≡ 0) × ((0 < id) × (id ≤ length slots))
row_place slots first free births id h held = held_place (view_of slots first free births) id h.sound held

-- each used id has a row or is free
pub counted : (slots : List Slot) (first free births : ℕ) → IsSoundChain slots first free births
    → Rattle.std.specs.FinMap.len (rows_from 1 slots) + free ≡ length slots
counted slots first free births h = let c = h.sound.count in let l = length-followed free slots first in omega arith

-- an id with a row is not free
pub row_not_free : (slots : List Slot) (first free births id : ℕ) (e : Entry) → IsSoundChain slots first free births
    → slot_at slots id ≡ Some (slot_of_entry e)
    → false ≡ free_or_next (view_of slots first free births) id
row_not_free slots first free births id e h at =
    let held : is_held (view_of slots first free births) id ≡ true = ap is_some (get_row slots id ∙ ap row_in at) in
    let law = free_or_next-rows (view_of slots first free births) id h.sound in
    grind (common_steps, arith, law, held)

-- an id whose slot says that it is free is free
pub free_is_free : (slots : List Slot) (first free births id n o : ℕ) → IsSoundChain slots first free births
    → slot_at slots id ≡ Some (Free n o)
    → true ≡ free_or_next (view_of slots first free births) id
free_is_free slots first free births id n o h at =
    let u = slot_used slots id _ at in
    sym (unheld_is_free (view_of slots first free births) id h.sound (get_row slots id ∙ ap row_in at) u.0
    (omega arith))

-- an id in the chain is free
pub chained_is_free : (view : View) (id : ℕ) → 0 < times id view.freed → free_or_next view id ≡ true
chained_is_free view id h = grind (arith, common_steps, nat_tests, h)

-- A new table.

pub becomes_opening : (display : Iface) → Becomes (slot_of_entry (new_row 0 display 1) ∷ []) 0 0 1 (opening display)
becomes_opening display = record {
  stands_for = refl;
  chain = record { begins = refl; once = λ id. omega arith; linked = λ id p. absurd (omega arith) };
}

-- Opening a freed id: the id was taken out of the chain, and then its row was put.
pub becomes_reopened : (old mid new : List Slot) (first after free births id : ℕ) (iface : Iface) (version : ℕ)
    → IsSoundChain old first free births
    → 0 < times id (followed free old first)
    → IsTakenOut id old first mid after
    → HasSameRows old mid
    → IsPut id (slot_of_entry (new_row births iface version)) mid new
    → length new ≡ length old
    → Becomes new after (free - 1) (births + 1) (opened_at (view_of old first free births) id iface version)
becomes_reopened old mid new first after free births id iface version h stands taken rows put long =
    let ids = followed free old first in
    let e : Entry = new_row births iface version in
    let one = h.chain.once id in
    let chain : IsChain new after (without id ids) =
    kept mid new after (without id ids) (taken ids h.chain stands) (λ q p.
    let t = times-without id q ids in
    let other : eqb q id ≡ false = grind (arith, common_steps, nat_tests, t, p) in
    put q ∙ ap (λ b. cond b (Some (slot_of_entry e)) (slot_at mid q)) other) in
    let fewer : free - 1 ≡ length (without id ids) = let l = length-without id ids in let f =
    length-followed free old first in omega arith in
    let used : length new ≡ max (length old) id = let u =
    used_of_freed (view_of old first free births) id h.sound stands in omega arith in
    record {
      stands_for = same_view (births + 1)
          (rows_with old new id e (λ q. ap row_in (put q) ∙ row_put (eqb q id) e (slot_at mid q)
          ∙ ap (cond (eqb q id) (Some e)) (rows q)))
          (follows new after (without id ids) chain (free - 1) fewer)
          used;
      chain = chain;
    }

-- Opening the next unused id: its row was pushed.
pub becomes_opened : (old new : List Slot) (first free births : ℕ) (iface : Iface) (version : ℕ)
    → IsSoundChain old first free births
    → new ≡ old ++ slot_of_entry (new_row births iface version) ∷ []
    → Becomes new first free (births + 1) (opened_at (view_of old first free births) (length old + 1) iface version)
becomes_opened old new first free births iface version h pushed =
    let ids = followed free old first in
    let id : ℕ = length old + 1 in
    let e : Entry = new_row births iface version in
    let put = λ (q : ℕ). ap (λ (s : List Slot). slot_at s q) pushed ∙ slot_push old (slot_of_entry e) q in
    let none : times (length old + 1) ids ≡ 0 = ⊎_elim
    (λ z. z)
    (λ some. let u = used_of_freed (view_of old first free births) (length old + 1) h.sound (omega arith)
    in absurd (omega arith))
    (cases_eq (times (length old + 1) ids) 0) in
    let same = without-absent (length old + 1) ids none in
    let chain : IsChain new first ids = kept old new first ids h.chain (λ q p.
    let u = used_of_freed (view_of old first free births) q h.sound p in
    let other : eqb q (length old + 1) ≡ false = grind (arith, nat_tests, u) in
    put q ∙ ap (λ b. cond b (Some (slot_of_entry e)) (slot_at old q)) other) in
    let used : length new ≡ max (length old) (length old + 1) = let l =
    ap (length {A = Slot}) pushed ∙ length-append old (slot_of_entry e ∷ []) in omega arith in
    record {
      stands_for = same_view (births + 1)
          (rows_with old new (length old + 1) e (λ q. ap row_in (put q)
          ∙ row_put (eqb q (length old + 1)) e (slot_at old q)))
          (follows new first ids chain free (sym (length-followed free old first)) ∙ sym same)
          used;
      chain = subst (IsChain new first) (sym same) chain;
    }

-- Closing: the id was put first in the chain.
pub becomes_closed : (old new : List Slot) (first after free births id : ℕ)
    → IsSoundChain old first free births
    → is_held (view_of old first free births) id ≡ true
    → IsPutFirst id old first new after
    → HasNoRowAt id old new
    → length new ≡ length old
    → Becomes new after (free + 1) births (closed (view_of old first free births) id)
becomes_closed old new first after free births id h held put rows long =
    let ids = followed free old first in
    let chain : IsChain new after (id ∷ ids) = put ids h.chain (row_place old first free births id h held).0 in
    let more : free + 1 ≡ length (id ∷ ids) = let f = length-followed free old first in omega arith in
    record {
      stands_for = same_view births (rows_without old new id rows)
          (follows new after (id ∷ ids) chain (free + 1) more) long;
      chain = chain;
    }

-- A zombie: its row replaced that of the live object.
pub becomes_zombied : (old new : List Slot) (first free births id : ℕ) (e : Entry)
    → IsSoundChain old first free births
    → slot_at old id ≡ Some (slot_of_entry e)
    → IsPut id (slot_of_entry (zombie e)) old new
    → length new ≡ length old
    → Becomes new first free births (zombied (view_of old first free births) id)
becomes_zombied old new first free births id e h at put long =
    let ids = followed free old first in
    let chain : IsChain new first ids = kept old new first ids h.chain (λ q p. ⊎_elim
    (λ same. let link = h.chain.linked q p in let at_q = ap (slot_at old) same ∙ at in cc)
    (λ other. let apart : eqb q id ≡ false = grind (arith, nat_tests, other)
    in put q ∙ ap (λ b. cond b (Some (slot_of_entry (zombie e))) (slot_at old q)) apart)
    (cases_eq q id)) in
    let got : get (rows_from 1 old) id ≡ Some e = get_row old id ∙ ap row_in at in
    record {
      stands_for = same_view births
          (rows_with old new id (zombie e) (λ q. ap row_in (put q) ∙ row_put (eqb q id) (zombie e) (slot_at old q))
          ∙ ap (with_zombie (rows_from 1 old) id) (sym got))
          (follows new first ids chain free (sym (length-followed free old first)))
          long;
      chain = chain;
    }

-- Replacing an object: the new row was put in place of the old one.
pub becomes_replaced : (old new : List Slot) (first free births id : ℕ) (iface : Iface) (version : ℕ)
    → IsSoundChain old first free births
    → is_held (view_of old first free births) id ≡ true
    → IsPut id (slot_of_entry (new_row births iface version)) old new
    → length new ≡ length old
    → Becomes new first free (births + 1) (opened_at (view_of old first free births) id iface version)
becomes_replaced old new first free births id iface version h held put long =
    let ids = followed free old first in
    let e : Entry = new_row births iface version in
    let out = (row_place old first free births id h held).0 in
    let chain : IsChain new first ids = kept old new first ids h.chain (λ q p.
    let other : eqb q id ≡ false = grind (arith, common_steps, nat_tests, out, p) in
    put q ∙ ap (λ b. cond b (Some (slot_of_entry e)) (slot_at old q)) other) in
    let same = freed-reopened (view_of old first free births) id iface version h.sound held in
    let used = used-reopened (view_of old first free births) id iface version h.sound held in
    record {
      stands_for = same_view (births + 1)
          (rows_with old new id e (λ q. ap row_in (put q) ∙ row_put (eqb q id) e (slot_at old q)))
          (follows new first ids chain free (sym (length-followed free old first)) ∙ sym same)
          (long ∙ sym used);
      chain = subst (IsChain new first) (sym same) chain;
    }
