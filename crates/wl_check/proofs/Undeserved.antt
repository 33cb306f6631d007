-- The first delete_id that is not deserved, after one more message.
use Rattle.std.proofs.Common.{◌≡◌, ℕ, suc, ◌+◌, Bool, true, false, Some, None, refl, sym, ap, ◌∙◌, inl, inr, arith, subst}
use Rattle.std.specs.Prelude.{Option, List, slice_get, ◌↔◌}
use Rattle.std.specs.declared.result.Result.TheVariants.{Ok}
use Rattle.std.proofs.lemmas.Bool.{cases_lt}
use Rattle.wl_sigs.specs.Rules.{is_ended_by_event}
use Rattle.wl_sigs.specs.Tables.{Interface, interface_at}
use Rattle.wl_object_map.specs.declared.object.Entry.{Entry}
use Rattle.wl_object_map.specs.declared.object.State.{State}
use Rattle.wl_object_map.specs.declared.object.State.TheVariants.{Live, Zombie}
use Rattle.wl_check.specs.declared.changes.MessageChanges.{MessageChanges}
use Rattle.wl_check.specs.declared.deserved.UndeservedDelete.{UndeservedDelete}
use Rattle.wl_check.specs.Changes.{Call, changes}
use Rattle.wl_check.specs.Places.{KnownAtPlace, known}
use Rattle.wl_check.specs.Session.{Session, changes_at, changes_of, messages}
use Rattle.wl_check.specs.Deserved.{AllDeserved, Deserved, TellsUndeserved, first_with, is_given_up}
use Rattle.wl_check.specs.Deserved.{undeserved_at, undeserved_id, unless_given_up}

all_next : (tables : List Interface) (s : Session) (k : ℕ) → AllDeserved tables s k → undeserved_at tables s k ≡ None
    → AllDeserved tables s (k + 1)
all_next tables s k a here j below = elim (cases_lt j k) [
  | inl less ↦ a j less
  | inr more ↦ (let same : k ≡ j = omega (arith, below, more) in
      subst (λ (n : ℕ). undeserved_at tables s n ≡ None) same here)
]

next_as : (tables : List Interface) (s : Session) (k : ℕ) (u : Option UndeservedDelete) (found : Option ℕ)
    → undeserved_at tables s k ≡ found → TellsUndeserved tables s k u
    → TellsUndeserved tables s (k + 1) (first_with u (k + 1) found)
next_as tables s k (Some u) found here t = record {
  place = t.place;
  below = (let below = t.below in omega (arith, below));
  number_is = t.number_is;
  takes_back = t.takes_back;
  first = t.first;
}
next_as tables s k None None here t = all_next tables s k t here
next_as tables s k None (Some id) here t = record {
  place = k;
  below = omega arith;
  number_is = omega arith;
  takes_back = here;
  first = t;
}

-- after a message that keeps the rules
pub undeserved_next : (tables : List Interface) (s : Session) (k : ℕ) (call : Call) (e : MessageChanges)
    (knows : KnownAtPlace) (u v : Option UndeservedDelete) → slice_get (messages tables s) k ≡ Some (Ok call)
    → e ≡ changes tables call → knows ≡ known (changes_at tables (messages tables s)) (suc k)
    → v ≡ first_with u (k + 1) (undeserved_id tables knows e) → TellsUndeserved tables s k u
    → TellsUndeserved tables s (k + 1) v
undeserved_next tables s k call e knows u v m what is next t =
    let does : changes_at tables (messages tables s) (suc k) ≡ e = ap (changes_of tables) m ∙ sym what in
    let here : undeserved_at tables s k ≡ undeserved_id tables knows e =
    (λ i. undeserved_id tables (sym is i) (does i)) in
    subst (TellsUndeserved tables s (k + 1)) (sym next) (next_as tables s k u (undeserved_id tables knows e) here t)

-- ---- what a deserved delete_id is

given_up_as : (tables : List Interface) (k : KnownAtPlace) (id : ℕ) (o : Option Entry) → k.object id ≡ o
    → (is_given_up tables o ≡ true) ↔ Deserved tables k id
given_up_as tables k id None e =
    ((λ no. absurd (cc no)), (λ d. (let there = sym e ∙ d.named in absurd (cc there))))
given_up_as tables k id (Some entry) e = by_state entry.state refl
  where
    by_state : (s : State) → entry.state ≡ s → (is_given_up tables (Some entry) ≡ true) ↔ Deserved tables k id
    by_state Zombie z =
        ((λ yes. record { entry = entry; named = e; given_up = inl z }), (λ d. rw z refl))
    by_state Live z = (
      (λ yes. record { entry = entry; named = e; given_up = inr (rw z at yes) }),
      (λ d. (let same : d.entry ≡ entry = (let both = sym d.named ∙ e in cc both) in
          rw z (elim d.given_up [
            | inl dead ↦ (let no = sym (ap (λ (x : Entry). x.state) same ∙ z) ∙ dead in absurd (cc no))
            | inr by ↦ ap (λ (x : Entry). is_ended_by_event (interface_at tables x.iface.0)) (sym same) ∙ by
          ]))),
    )

none_as : (tables : List Interface) (k : KnownAtPlace) (id : ℕ) (b : Bool) → is_given_up tables (k.object id) ≡ b
    → (unless_given_up tables k (Some id) ≡ None) ↔ (b ≡ true)
none_as tables k id true e = ((λ _. refl), (λ _. rw e refl))
none_as tables k id false e = ((λ none. (let no : Some id ≡ None = rw e at none in absurd (cc no))), (λ no. absurd (cc no)))

pub deserved_is : (tables : List Interface) (k : KnownAtPlace) (deleted : Option ℕ)
    → (unless_given_up tables k deleted ≡ None) ↔ ((id : ℕ) → deleted ≡ Some id → Deserved tables k id)
deserved_is tables k None = ((λ _ id no. absurd (cc no)), (λ _. refl))
deserved_is tables k (Some id) =
    let test = none_as tables k id (is_given_up tables (k.object id)) refl in
    let meaning = given_up_as tables k id (k.object id) refl in (
      (λ none other is. (let same : id ≡ other = cc is in
          subst (λ (i : ℕ). Deserved tables k i) same (meaning.0 (test.0 none)))),
      (λ each. test.1 (meaning.1 (each id refl))),
    )
