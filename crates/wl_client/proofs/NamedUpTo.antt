-- A bound on the names of remembered globals: a greater name is not among them, and what is remembered keeps it.
use Rattle.std.proofs.Common.{◌≡◌, ℕ, zero, suc, ◌<◌, ◌≤◌, Bool, true, false, cond, List, [], ◌∷◌, ◌++◌, Some, None}
use Rattle.std.proofs.Common.{length, take, drop, refl, ap, subst, ◌∙◌, arith}
use Rattle.std.specs.Prelude.{is_some, slice_get}
use Rattle.std.proofs.lemmas.Bool.{eq-eqb, ne_eqb, eqb-true}
use Rattle.std.proofs.lemmas.List.{length-append, length-drop, length-take}
use Rattle.std.proofs.lemmas.List.Elements.{All-cons, All-head, All-tail}
use Rattle.wl_client.specs.State.{Global, AreNamedUpTo, global_of, is_named}
use Rattle.wl_client.specs.Reports.{forgotten, with_replaced}

-- a global within the bound does not have a name above it
other_name : (greatest name : ℕ) (g : Global) → g.name ≤ greatest → greatest < name → is_named name g ≡ false
other_name greatest name g h above = ne_eqb g.name name (λ e. omega (arith, e))

abbrev pub up_to : ℕ → Global → Type 0
up_to greatest g = g.name ≤ greatest

-- no global has a name above the bound
pub none_above : (greatest name : ℕ) (globals : List Global) → AreNamedUpTo greatest globals → greatest < name
    → global_of globals name ≡ None
none_above greatest name [] h above = refl
none_above greatest name (g ∷ gs) h above =
    rw (other_name greatest name g (All-head (up_to greatest) g gs h) above)
    (none_above greatest name gs (All-tail (up_to greatest) g gs h) above)

-- hence forgetting such a name changes nothing
pub nothing_forgotten : (greatest name : ℕ) (globals : List Global) → AreNamedUpTo greatest globals → greatest < name
    → forgotten name globals ≡ globals
nothing_forgotten greatest name [] h above = refl
nothing_forgotten greatest name (g ∷ gs) h above =
    rw (other_name greatest name g (All-head (up_to greatest) g gs h) above)
    (ap (λ (l : List Global). g ∷ l) (nothing_forgotten greatest name gs (All-tail (up_to greatest) g gs h) above))

-- a global replaces one with the same name, so the bound stays
pub replaced_up_to : (greatest : ℕ) (global : Global) (globals : List Global) → AreNamedUpTo greatest globals
    → AreNamedUpTo greatest (with_replaced global globals)
replaced_up_to greatest global [] h = h
replaced_up_to greatest global (g ∷ gs) h = All-cons (up_to greatest) _ (with_replaced global gs)
    (one_of (is_named global.name g) refl) (replaced_up_to greatest global gs (All-tail (up_to greatest) g gs h))
  where
    old : g.name ≤ greatest
    old = All-head (up_to greatest) g gs h

    one_of : (b : Bool) → is_named global.name g ≡ b → (cond b global g).name ≤ greatest
    one_of true is = subst (λ (n : ℕ). n ≤ greatest) (eqb-true g.name global.name is) old
    one_of false is = old

-- a name that the global at some place has is found
pub found_at : (globals : List Global) (place name : ℕ) (g : Global) → slice_get globals place ≡ Some g
    → g.name ≡ name → is_some (global_of globals name) ≡ true
found_at [] place name g at same = absurd (cc at)
found_at (x ∷ xs) zero name g at same =
    let is : x ≡ g = cc at in
    rw (eq-eqb x.name name (ap (λ (y : Global). y.name) is ∙ same)) refl
found_at (x ∷ xs) (suc place) name g at same = either (is_named name x) (found_at xs place name g at same)
  where
    either : (b : Bool) → is_some (global_of xs name) ≡ true → is_some (cond b (Some x) (global_of xs name)) ≡ true
    either true h = refl
    either false h = h

-- overwriting all of a list does not make it longer
pub no_longer : (n : ℕ) (new old : List Global) → length new ≡ length old
    → length (take n (new ++ drop (length new) old)) ≤ length old
no_longer n new old same =
    let all = length-append new (drop (length new) old) in
    omega (arith, length-take n (new ++ drop (length new) old), all, length-drop (length new) old, same)
