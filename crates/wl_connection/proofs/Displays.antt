-- The row of wl_display never changes, and no message destroys wl_display.
use Rattle.std.proofs.Common.{◌≡◌, ◌≢◌, ℕ, zero, suc, Bool, true, false, List, refl, sym, ◌∙◌, ap}
use Rattle.std.proofs.Common.{cond, eqb, subst, arith}
use Rattle.std.proofs.lemmas.Bool.Decides.{nat_tests}
use Rattle.std.specs.declared.option.Option.TheVariants.{None, Some}
use Rattle.std.specs.declared.result.Result.TheVariants.{Ok, Err}
use Rattle.std.specs.Prelude.{Option, Result, OnErr, OnOk, ◌↔◌, IsTrue, is_some, option_map, slice_get}
use Rattle.wl_wire.specs.declared.kind.Iface.{Iface}
use Rattle.wl_sigs.specs.Side.{Side}
use Rattle.wl_sigs.specs.Side.TheVariants.{Request, Event}
use Rattle.wl_sigs.specs.Destroys.TheVariants.{Nothing, Target}
use Rattle.wl_sigs.specs.Tables.{Interface, MessageSignature, signature_at, messages_of}
use Rattle.wl_sigs.specs.Fixed.{wl_display, display}
use Rattle.wl_sigs.specs.Valid.{Valid}
use Rattle.wl_object_map.specs.declared.object.Entry.{Entry}
use Rattle.wl_object_map.specs.declared.object.State.TheVariants.{Live}
use Rattle.wl_object_map.specs.declared.object.Maker.{Maker}
use Rattle.wl_object_map.specs.declared.object.Object.{Object}
use Rattle.wl_object_map.specs.declared.object.TableError.{TableError}
use Rattle.wl_object_map.specs.declared.object.TableError.TheVariants as refusals
use Rattle.wl_object_map.specs.Objects.{Objects, ObjectsAreSound, look, is_held, births, opening}
use Rattle.wl_object_map.specs.View.{zombie}
use Rattle.wl_object_map.specs.Objects.{free_or_next, next_id, opened_at, opened, closed, zombied}
use Rattle.wl_object_map.specs.ObjectsLaws.{look-opening, look-opened_at, look-closed, look-zombied}
use Rattle.wl_object_map.specs.ObjectsLaws.{free-next, free-no_row}
use Rattle.wl_connection.specs.Core.{HasDisplay}

pub HasDisplay-opening : (range : Bool) → HasDisplay (opening display range)
HasDisplay-opening range = look-opening display range 1

-- an id without a row is not that of wl_display
not_display : (view : Objects) (id : ℕ) → HasDisplay view → look view id ≡ None → eqb 1 id ≡ false
not_display view id d n = by_test (eqb 1 id) refl
  where
    by_test : (b : Bool) → eqb 1 id ≡ b → b ≡ false
    by_test false e = refl
    by_test true e = let same : 1 ≡ id = grind (arith, nat_tests, e) in let row : look view 1 ≡ None =
        subst (λ (i : ℕ). look view i ≡ None) (sym same) n in absurd (cc (row, d))

pub HasDisplay-opened_at : (view : Objects) (id : ℕ) (iface : Iface) (version : ℕ) → ObjectsAreSound view
    → free_or_next view id ≡ true → HasDisplay view → HasDisplay (opened_at view id iface version)
HasDisplay-opened_at view id iface version s f d =
    look-opened_at view id iface version 1
    ∙ (ap (λ b. cond b (Some (record { birth = births view id; iface = iface; version = version; state = Live }))
    (look view 1)) (not_display view id d (free-no_row view id s f)) ∙ d)

pub HasDisplay-opened : (maker : Maker) (view : Objects) (iface : Iface) (version : ℕ) → ObjectsAreSound view
    → HasDisplay view → HasDisplay (opened maker view iface version)
HasDisplay-opened maker view iface version s d = HasDisplay-opened_at view (next_id maker view) iface version s
    (free-next maker view s) d

-- an opening that may be refused keeps the row of wl_display
pub HasDisplay-opening_next : {X E : Type 0} (maker : Maker) (result : Result X E) (before now : Objects)
    (iface : Iface) (version : ℕ) → ObjectsAreSound before → HasDisplay before
    → OnOk result (now ≡ opened maker before iface version) → OnErr result (now ≡ before) → HasDisplay now
HasDisplay-opening_next maker (Ok object) before now iface version s d ok err =
    subst HasDisplay (sym ok) (HasDisplay-opened maker before iface version s d)
HasDisplay-opening_next maker (Err why) before now iface version s d ok err = subst HasDisplay (sym err) d

other : (id : ℕ) → id ≢ 1 → eqb 1 id ≡ false
other id n = grind (arith, nat_tests, n)

pub HasDisplay-closed : (view : Objects) (id : ℕ) → id ≢ 1 → HasDisplay view → HasDisplay (closed view id)
HasDisplay-closed view id n d = look-closed view id 1 ∙ (ap (λ b. cond b None (look view 1)) (other id n) ∙ d)

pub HasDisplay-zombied : (view : Objects) (id : ℕ) → id ≢ 1 → HasDisplay view → HasDisplay (zombied view id)
HasDisplay-zombied view id n d = look-zombied view id 1
    ∙ (ap (λ b. cond b (option_map zombie (look view 1)) (look view 1)) (other id n) ∙ d)

-- the messages of wl_display destroy nothing
nothing-at : (side : Side) (opcode : ℕ) (m : MessageSignature) → slice_get (messages_of side wl_display) opcode ≡ Some m
    → m.destroys ≡ Nothing
nothing-at Request zero m e = let d = ap (option_map (λ (n : MessageSignature). n.destroys)) e in cc
nothing-at Request (suc zero) m e = let d = ap (option_map (λ (n : MessageSignature). n.destroys)) e in cc
nothing-at Request (suc (suc n)) m e = absurd (cc)
nothing-at Event zero m e = let d = ap (option_map (λ (n : MessageSignature). n.destroys)) e in cc
nothing-at Event (suc zero) m e = let d = ap (option_map (λ (n : MessageSignature). n.destroys)) e in cc
nothing-at Event (suc (suc n)) m e = absurd (cc)

-- no message destroys wl_display
pub ends-another : (tables : List Interface) (view : Objects) (side : Side) (id opcode : ℕ) (entry : Entry)
    (m : MessageSignature)
    → Valid tables → HasDisplay view
    → look view id ≡ Some entry → signature_at tables entry.iface.0 side opcode ≡ Some m → m.destroys ≡ Target → id ≢ 1
ends-another tables view side id opcode entry m valid d row e t = λ same.
    let one : Some entry ≡ Some (record { birth = 0; iface = display; version = 1; state = Live }) =
    sym row ∙ ap (look view) same ∙ d in
    let place : Some entry.iface.0 ≡ Some 0 = ap (option_map (λ (x : Entry). x.iface.0)) one in
    let zero_place : entry.iface.0 ≡ 0 = cc in
    let at : signature_at tables 0 side opcode ≡ Some m =
    subst (λ (n : ℕ). signature_at tables n side opcode ≡ Some m) zero_place e in
    let found : slice_get (messages_of side wl_display) opcode ≡ Some m = rw valid.fixed_four.display at at in
    let nothing : m.destroys ≡ Nothing = nothing-at side opcode m found in
    let no : Nothing ≡ Target = sym nothing ∙ t in cc

is_held-of : (o : Option Entry) → is_some o ≡ false → o ≡ None
is_held-of None e = refl
is_held-of (Some x) e = absurd (cc e)

-- `open_at` opens ids without a row, so never that of wl_display
pub HasDisplay-open : (view after : Objects) (id : ℕ) (iface : Iface) (version : ℕ) (r : Result Object TableError)
    → OnOk r (after ≡ opened_at view id iface version) → OnErr r (after ≡ view)
    → ((r ≡ Err refusals.InUse) ↔ IsTrue (is_held view id)) → HasDisplay view → HasDisplay after
HasDisplay-open view after id iface version (Err why) o e u d = subst HasDisplay (sym e) d
HasDisplay-open view after id iface version (Ok object) o e u d = by_test (is_held view id) refl
  where
    by_test : (b : Bool) → is_held view id ≡ b → HasDisplay after
    by_test true h = let no : Ok object ≡ Err refusals.InUse = u.1 h in absurd (cc no)
    by_test false h =
        subst HasDisplay (sym o) (look-opened_at view id iface version 1
        ∙ (ap (λ b. cond b (Some (record { birth = births view id; iface = iface; version = version; state = Live }))
        (look view 1)) (not_display view id d (is_held-of (look view id) h)) ∙ d))
