-- Restoring what was overwritten.
use Rattle.std.proofs.Common.{◌≡◌, ℕ, Bool, true, false, List, [], ◌∷◌, ◌++◌, length, take}
use Rattle.std.proofs.Common.{get_or, set, Option, Some, None, refl, sym, ap, ◌∙◌, inl, inr, arith, IsSome}
use Rattle.std.proofs.lemmas.Bool.{cases_lt}
use Rattle.std.proofs.lemmas.Cmp.{nat_cmp_total, tied_itself}
use Rattle.std.proofs.lemmas.List.{set-append_left, set-get_or, set-set, take_all, take_at, take-set-le}
use Rattle.std.specs.BTreeMap.{insert_entry, is_at}
use Rattle.std.specs.Map.{keys_of, lookup, remove_entry, set_value}
use Rattle.std.specs.declared.cmp.Ordering.{Ordering}
use Rattle.std.specs.declared.cmp.Ordering.TheVariants.{Less, Equal, Greater}
use Rattle.wl_object_map.specs.declared.object.Entry.{Entry}
use Rattle.wl_check.specs.declared.overwritten.Overwritten.{Overwritten}
use Rattle.wl_check.specs.declared.overwritten.Overwritten.TheVariants.{Global}
use Rattle.wl_check.specs.Held.{pair_cmp, put_back, undone, Held}

-- what was overwritten last is restored first
pub undone_last : (earlier : List Overwritten) (last : Overwritten) (held : Held)
    → undone (earlier ++ last ∷ []) held ≡ undone earlier (put_back last held)
undone_last [] last held = refl
undone_last (x ∷ xs) last held = ap (put_back x) (undone_last xs last held)

-- the same with the values that the code has: it records what it is about to overwrite
pub undone_more : (earlier now : List Overwritten) (last : Overwritten) (old new : Held) → now ≡ earlier ++ last ∷ []
    → put_back last new ≡ old → undone now new ≡ undone earlier old
undone_more earlier now last old new is back =
    ap (λ (l : List Overwritten). undone l new) is ∙ undone_last earlier last new ∙ ap (undone earlier) back

-- if nothing was overwritten yet, nothing changes
pub none_overwritten : (list : List Overwritten) (held : Held) → list ≡ [] → Some (undone list held) ≡ Some held
none_overwritten list held none = ap (λ (l : List Overwritten). Some (undone l held)) none

-- ---- the object at an id

slot_same : {X : Type 0} (xs more : List (Option X)) (id : ℕ)
    → take (length xs) (set (xs ++ more) id (get_or xs id None)) ≡ xs
slot_same xs more id = elim (cases_lt id (length xs)) [
  | inl there ↦ ap (take (length xs)) (set-append_left xs more id (get_or xs id None) there
      ∙ ap (λ (l : List _). l ++ more) (set-get_or xs id None)) ∙ take_at xs more (length xs) refl
  | inr past ↦ take-set-le (length xs) (xs ++ more) id (get_or xs id None) past ∙ take_at xs more (length xs) refl
]

-- restoring a slot, also if slots were added for it
pub slot_back : {X : Type 0} (xs more : List (Option X)) (id : ℕ) (x : Option X)
    → take (length xs) (set (set (xs ++ more) id x) id (get_or xs id None)) ≡ xs
slot_back xs more id x = ap (take (length xs)) (set-set (xs ++ more) id x (get_or xs id None)) ∙ slot_same xs more id

-- restoring a slot that was not overwritten
pub slot_stays : {X : Type 0} (xs : List (Option X)) (id : ℕ)
    → take (length xs) (set xs id (get_or xs id None)) ≡ xs
slot_stays xs id = ap (take (length xs)) (set-get_or xs id None) ∙ take_all (length xs) xs (omega arith)

-- ---- the version of a global

module _ {K X : Type 0} where
  none_removed_as : (test : K → Bool) (e : K × X) (es : List (K × X)) (b : Bool) → test e.0 ≡ b
      → lookup test (e ∷ es) ≡ None → (lookup test es ≡ None → remove_entry test es ≡ es)
      → remove_entry test (e ∷ es) ≡ e ∷ es
  none_removed_as test e es true is none more = let no : Some e.1 ≡ None = rw is at none in absurd (cc no)
  none_removed_as test e es false is none more =
      rw is (ap (λ (l : List (K × X)). e ∷ l) (more (rw is at none)))

  -- removing a key that is not there
  pub none_removed : (test : K → Bool) (es : List (K × X)) → lookup test es ≡ None → remove_entry test es ≡ es
  none_removed test [] none = refl
  none_removed test (e ∷ es) none = none_removed_as test e es (test e.0) refl none (none_removed test es)

  none_set_as : (test : K → Bool) (e : K × X) (es : List (K × X)) (w : X) (b : Bool) → test e.0 ≡ b
      → lookup test (e ∷ es) ≡ None → (lookup test es ≡ None → set_value test es w ≡ es)
      → set_value test (e ∷ es) w ≡ e ∷ es
  none_set_as test e es w true is none more = let no : Some e.1 ≡ None = rw is at none in absurd (cc no)
  none_set_as test e es w false is none more =
      rw is (ap (λ (l : List (K × X)). e ∷ l) (more (rw is at none)))

  -- overwriting a key that is not there
  pub none_set : (test : K → Bool) (es : List (K × X)) (w : X) → lookup test es ≡ None → set_value test es w ≡ es
  none_set test [] w none = refl
  none_set test (e ∷ es) w none = none_set_as test e es w (test e.0) refl none (none_set test es w)

  put_as : (cmp : K → K → Ordering) (k : K) (v : X) (e : K × X) (es : List (K × X)) (o : Ordering) → cmp k k ≡ Equal
      → cmp k e.0 ≡ o → lookup (is_at (cmp k)) (e ∷ es) ≡ None
      → (lookup (is_at (cmp k)) es ≡ None → remove_entry (is_at (cmp k)) (insert_entry cmp es k v) ≡ es)
      → remove_entry (is_at (cmp k)) (insert_entry cmp (e ∷ es) k v) ≡ e ∷ es
  put_as cmp k v e es Less same is none more = rw (is, same) refl
  put_as cmp k v e es Equal same is none more = let no : Some e.1 ≡ None = rw is at none in absurd (cc no)
  put_as cmp k v e es Greater same is none more =
      rw (is, is) (ap (λ (l : List (K × X)). e ∷ l) (more (rw is at none)))

  -- removing a key that was inserted
  pub put_removed : (cmp : K → K → Ordering) (k : K) (v : X) (es : List (K × X)) → cmp k k ≡ Equal
      → lookup (is_at (cmp k)) es ≡ None → remove_entry (is_at (cmp k)) (insert_entry cmp es k v) ≡ es
  put_removed cmp k v [] same none = rw same refl
  put_removed cmp k v (e ∷ es) same none =
      put_as cmp k v e es (cmp k e.0) same refl none (put_removed cmp k v es same)

  set_as : (cmp : K → K → Ordering) (k : K) (v w : X) (e : K × X) (es : List (K × X)) (o : Ordering) → cmp k e.0 ≡ o
      → lookup (is_at (cmp k)) (e ∷ es) ≡ Some v → keys_of (insert_entry cmp (e ∷ es) k w) ≡ keys_of (e ∷ es)
      → (lookup (is_at (cmp k)) es ≡ Some v → keys_of (insert_entry cmp es k w) ≡ keys_of es
      → set_value (is_at (cmp k)) (insert_entry cmp es k w) v ≡ es)
      → set_value (is_at (cmp k)) (insert_entry cmp (e ∷ es) k w) v ≡ e ∷ es
  set_as cmp k v w e es Less is some keys more =
      let longer : k ∷ e.0 ∷ keys_of es ≡ e.0 ∷ keys_of es = rw is at keys in
      let l = ap (λ (l : List K). length l) longer in
      absurd (omega (arith, l))
  set_as cmp k v w e es Equal is some keys more =
      let same : Some e.1 ≡ Some v = rw is at some in
      let v_is : e.1 ≡ v = cc same in
      rw (is, is) (ap (λ (x : X). (e.0, x) ∷ es) (sym v_is))
  set_as cmp k v w e es Greater is some keys more =
      let same : e.0 ∷ keys_of (insert_entry cmp es k w) ≡ e.0 ∷ keys_of es = rw is at keys in
      rw (is, is) (ap (λ (l : List (K × X)). e ∷ l) (more (rw is at some) (cc same)))

  -- restoring a value that was overwritten
  pub set_again : (cmp : K → K → Ordering) (k : K) (v w : X) (es : List (K × X))
      → lookup (is_at (cmp k)) es ≡ Some v → keys_of (insert_entry cmp es k w) ≡ keys_of es
      → set_value (is_at (cmp k)) (insert_entry cmp es k w) v ≡ es
  set_again cmp k v w [] some keys = absurd (cc some)
  set_again cmp k v w (e ∷ es) some keys =
      set_as cmp k v w e es (cmp k e.0) refl some keys (set_again cmp k v w es)

pub pair_itself : (key : ℕ × ℕ) → pair_cmp key key ≡ Equal
pair_itself key = rw (tied_itself nat_cmp_total key.0, tied_itself nat_cmp_total key.1) refl

-- restoring the version of a global that had none, if none was inserted
pub put_back_none : (key : ℕ × ℕ) (version : Option ℕ) (objects server : List (Option Entry))
    (old new : List ((ℕ × ℕ) × ℕ))
    → version ≡ lookup (is_at (pair_cmp key)) old → lookup (is_at (pair_cmp key)) old ≡ None → new ≡ old
    → put_back (Global key version) (record { objects = objects; server_objects = server; globals = new })
    ≡ record { objects = objects; server_objects = server; globals = old }
put_back_none key version objects server old new found absent same =
    rw (found ∙ absent) (λ i. record {
      objects = objects;
      server_objects = server;
      globals = (ap (remove_entry (is_at (pair_cmp key))) same ∙ none_removed (is_at (pair_cmp key)) old absent) i;
    })

-- the same if one was inserted or overwritten
pub put_back_global : (key : ℕ × ℕ) (version : Option ℕ) (w : ℕ) (objects server : List (Option Entry))
    (old new : List ((ℕ × ℕ) × ℕ)) → version ≡ lookup (is_at (pair_cmp key)) old → new ≡ insert_entry pair_cmp old key w
    → (IsSome version → keys_of new ≡ keys_of old)
    → put_back (Global key version) (record { objects = objects; server_objects = server; globals = new })
    ≡ record { objects = objects; server_objects = server; globals = old }
put_back_global key None w objects server old new found is keys = λ i. record {
  objects = objects;
  server_objects = server;
  globals = (ap (remove_entry (is_at (pair_cmp key))) is
      ∙ put_removed pair_cmp key w old (pair_itself key) (sym found)) i;
}
put_back_global key (Some v) w objects server old new found is keys = λ i. record {
  objects = objects;
  server_objects = server;
  globals = (ap (λ (l : List ((ℕ × ℕ) × ℕ)). set_value (is_at (pair_cmp key)) l v) is
      ∙ set_again pair_cmp key v w old (sym found) (ap (λ (l : List ((ℕ × ℕ) × ℕ)). keys_of l) (sym is) ∙ keys refl)) i;
}
