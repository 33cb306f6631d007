-- Making a zombie a zombie again changes nothing.
use Rattle.std.proofs.Common.{◌≡◌, ℕ, Bool, true, false, refl, sym, ap, ◌∙◌, cond, eqb, inl, inr}
use Rattle.std.proofs.lemmas.Bool.{cases_Bool, eqb-true}
use Rattle.std.specs.Ordering.{nat_cmp}
use Rattle.std.specs.Cmp.{nat_cmp_total}
use Rattle.std.specs.FinMap.{FinMap, get, insert, same_map, nat_cmp-IsAntisymmetric}
use Rattle.std.specs.Prelude.{Option, is_some}
use Rattle.std.specs.declared.option.Option.TheVariants.{Some, None}
use Rattle.wl_object_map.specs.declared.object.Entry.{Entry}
use Rattle.wl_object_map.specs.declared.object.State.{State}
use Rattle.wl_object_map.specs.declared.object.State.TheVariants.{Live, Zombie}
use Rattle.wl_object_map.specs.Ranges.{is_of_server, table_id}
use Rattle.wl_object_map.specs.View as table
use Rattle.wl_object_map.specs.View.{View, zombie, with_zombie, lives, lives_in}
use Rattle.wl_object_map.specs.Objects.{Objects, look, is_held, is_live, zombied}
use Rattle.wl_object_map.specs.ObjectsLaws.{in_range-server, in_range-client}
use Rattle.wl_object_map.specs.ObjectsLaws.{changed_server, changed_client}
use Rattle.wl_object_map.specs.Views.{get_put}

at_key : (rows : FinMap nat_cmp Entry) (id q : ℕ) (e : Entry) (b : Bool) → eqb q id ≡ b → get rows id ≡ Some e
    → cond b (Some e) (get rows q) ≡ get rows q
at_key rows id q e false t h = refl
at_key rows id q e true t h = sym h ∙ ap (get rows) (sym (eqb-true q id t))

-- inserting a row that is there changes nothing
put_same : (rows : FinMap nat_cmp Entry) (id : ℕ) (e : Entry) → get rows id ≡ Some e → insert rows id e ≡ rows
put_same rows id e h = same_map nat_cmp_total nat_cmp-IsAntisymmetric _ _
    (λ q. get_put rows id e q ∙ at_key rows id q e (eqb q id) refl h)

zombie_same : (e : Entry) → e.state ≡ Zombie → zombie e ≡ e
zombie_same e h = λ i. record e { state = sym h i }

same_in_table : (view : View) (id : ℕ) (e : Entry) → table.look view id ≡ Some e → e.state ≡ Zombie
    → table.zombied view id ≡ view
same_in_table view id e l z =
    ap (λ (r : FinMap nat_cmp Entry). record view { rows = r })
    (ap (with_zombie view.rows id) l ∙ ap (insert view.rows id) (zombie_same e z) ∙ put_same view.rows id e l)

pub zombied_same : (view : Objects) (id : ℕ) (e : Entry) → look view id ≡ Some e → e.state ≡ Zombie
    → zombied view id ≡ view
zombied_same view id e l z = elim (cases_Bool (is_of_server id)) [
  | inl h ↦
      (let same = same_in_table view.server (table_id id) e (sym (in_range-server table.look view id h) ∙ l) z in
      changed_server table.zombied view id h ∙ (λ i. record view { server = same i }))
  | inr h ↦
      (let same = same_in_table view.client id e (sym (in_range-client table.look view id h) ∙ l) z in
      changed_client table.zombied view id h ∙ (λ i. record view { client = same i }))
]

is_zombie : (s : State) → lives s ≡ false → s ≡ Zombie
is_zombie Live h = absurd (cc h)
is_zombie Zombie h = refl

by_row : (view : Objects) (id : ℕ) (o : Option Entry) → look view id ≡ o → is_some o ≡ true → lives_in o ≡ false
    → zombied view id ≡ view
by_row view id None l h n = absurd (cc h)
by_row view id (Some e) l h n = zombied_same view id e l (is_zombie e.state n)

-- nothing changes for an id that has a row but no live object
pub ended_same : (view : Objects) (id : ℕ) → is_held view id ≡ true → is_live view id ≡ false → zombied view id ≡ view
ended_same view id h n = by_row view id (look view id) refl h n
