-- What is held, open, used and advertised at a place, given the messages before it.
use Rattle.std.proofs.Common.{◌≡◌, ℕ, zero, suc, ◌+◌, ◌<◌, ◌≤◌, ◌-◌, Bool, true, false, ◌&&◌, ◌||◌, cond}
use Rattle.std.proofs.Common.{Some, None, refl, sym, ap, ◌∙◌, subst, inl, inr, arith, nat_lt}
use Rattle.std.proofs.Common.{nat_eq, max, ◌↔◌}
use Rattle.std.specs.Prelude.{Option}
use Rattle.std.proofs.lemmas.Bool.{cases_Bool, cases_order, cases_lt, lt-ltb, ltb-true, and_parts, eqb-true, eq-eqb, leb-true}
use Rattle.wl_object_map.specs.Ranges.{first_server_id, is_of_server}
use Rattle.wl_objects.specs.Messages.{NewObject}
use Rattle.wl_check.specs.declared.changes.AdvertisedGlobal.{AdvertisedGlobal}
use Rattle.wl_check.specs.declared.changes.MessageChanges.{MessageChanges}
use Rattle.wl_check.specs.Places.{makes_id, is_made, deletes_id, destroys_id, holder, is_ending, used, server_used}
use Rattle.wl_check.specs.Places.{used_by, server_used_by, advertised_version, advertises, advertised_once}
use Rattle.wl_check.specs.Places.{advertised_by}
use Rattle.wl_check.specs.Text.{StaysHeld, StaysOpen, WasUsed, WasAdvertised}

-- no object is made with an id of the client's range that is held, and each new id was used before
-- or is the next of its range
pub record IsFresh (s : ℕ → MessageChanges) (p : ℕ) : Type 0 where
  pub no_holder : (i : ℕ) → is_of_server i ≡ false → makes_id (s p) i ≡ true → holder s p i ≡ None
  pub next : (new : NewObject) → (s p).made ≡ Some new → is_of_server new.id ≡ false
      → (0 < new.id) × (new.id ≤ used s p + 1)
  pub next_of_server : (new : NewObject) → (s p).made ≡ Some new → is_of_server new.id ≡ true
      → new.id ≤ first_server_id + server_used s p

abbrev pub AreFresh : (ℕ → MessageChanges) → ℕ → Type 0
AreFresh s p = (q : ℕ) → q < p → IsFresh s q

-- ---- held

held_before : (s : ℕ → MessageChanges) (p m i : ℕ) → m < p → StaysHeld s (suc p) m i → StaysHeld s p m i
held_before s p m i below h = record {
  before = below;
  made = h.made;
  kept = λ q a b. h.kept q a (omega arith);
  latest = λ of_server q a b. h.latest of_server q a (omega arith);
}

to_step : (s : ℕ → MessageChanges) (p m i : ℕ) (made del : Bool) (o : Option ℕ) → makes_id (s p) i ≡ made
    → deletes_id (s p) i ≡ del → (is_of_server i ≡ false → made ≡ true → o ≡ None) → (StaysHeld s p m i → o ≡ Some m)
    → StaysHeld s (suc p) m i → cond made (Some p) (cond del None o) ≡ Some m
to_step s p m i made del o is_made is_del fresh ih h = elim (cases_order m p) [
  | inl e ↦ (let now : made ≡ true = sym is_made ∙ subst (λ (x : ℕ). makes_id (s x) i ≡ true) e h.made
      in rw now (ap (λ x. Some x) (sym e)))
  | inr w ↦ elim w [
    | inl below ↦ (let was : o ≡ Some m = ih (held_before s p m i below h) in elim (cases_Bool made) [
      | inl now ↦ absurd (elim (cases_Bool (is_of_server i)) [
        | inl of_server ↦ (let other : made ≡ false = sym is_made ∙ h.latest of_server p below (omega arith) in cc)
        | inr of_client ↦ (let none : o ≡ None = fresh of_client now in cc)
      ])
      | inr other ↦ (let keep : del ≡ false = sym is_del ∙ h.kept p below (omega arith) in rw (other, keep) was)
    ])
    | inr above ↦ absurd (omega (arith, h.before))
  ]
]

held_to : (s : ℕ → MessageChanges) (p m i : ℕ) → AreFresh s p → StaysHeld s p m i → holder s p i ≡ Some m
unfolding holder
held_to s zero m i fresh h = absurd (omega (arith, h.before))
held_to s (suc p) m i fresh h = to_step s p m i (makes_id (s p) i) (deletes_id (s p) i) (holder s p i) refl refl
    ((fresh p (omega arith)).no_holder i) (held_to s p m i (λ q b. fresh q (omega arith))) h

from_step : (s : ℕ → MessageChanges) (p m i : ℕ) (made del : Bool) (o : Option ℕ) → makes_id (s p) i ≡ made
    → deletes_id (s p) i ≡ del → (o ≡ Some m → StaysHeld s p m i) → cond made (Some p) (cond del None o) ≡ Some m
    → StaysHeld s (suc p) m i
from_step s p m i true del o is_made is_del ih e = let same : p ≡ m = cc
    in record {
      before = omega arith;
      made = subst (λ (x : ℕ). makes_id (s x) i ≡ true) same is_made;
      kept = λ q a b. absurd (omega arith);
      latest = λ of_server q a b. absurd (omega arith);
    }
from_step s p m i false true o is_made is_del ih e = absurd (cc)
from_step s p m i false false o is_made is_del ih e = let h : StaysHeld s p m i = ih e in record {
  before = omega (arith, h.before);
  made = h.made;
  kept = λ q a b. elim (cases_order q p) [
    | inl same ↦ rw same is_del
    | inr w ↦ elim w
        [ inl below ↦ h.kept q a below | inr above ↦ absurd (omega arith) ]
  ];
  latest = λ of_server q a b. elim (cases_order q p) [
    | inl same ↦ rw same is_made
    | inr w ↦ elim w
        [ inl below ↦ h.latest of_server q a below | inr above ↦ absurd (omega arith) ]
  ];
}

held_from : (s : ℕ → MessageChanges) (p m i : ℕ) → holder s p i ≡ Some m → StaysHeld s p m i
unfolding holder
held_from s zero m i e = absurd (cc)
held_from s (suc p) m i e = from_step s p m i (makes_id (s p) i) (deletes_id (s p) i) (holder s p i) refl refl
    (held_from s p m i) e

pub held_is : (s : ℕ → MessageChanges) (p m i : ℕ) → AreFresh s p → (holder s p i ≡ Some m) ↔ StaysHeld s p m i
held_is s p m i fresh = (held_from s p m i, held_to s p m i fresh)

-- ---- open

whole_step : (s : ℕ → MessageChanges) (m p i : ℕ) (b : Bool) → destroys_id (s p) i ≡ b
    → ((nat_lt m p && b) || is_ending s m p i) ≡ false → (is_ending s m p i ≡ false → StaysOpen s p m i)
    → StaysOpen s (suc p) m i
whole_step s m p i b is h ih q a c = elim (cases_order q p) [
  | inl e ↦ rw e (elim (cases_Bool b) [
    | inl so ↦ absurd (let lt : nat_lt m p ≡ true = lt-ltb m p (omega arith)
        in let g : ((true && true) || is_ending s m p i) ≡ false = rw (lt, so) at h in cc)
    | inr not_so ↦ is ∙ not_so
  ])
  | inr w ↦ elim w [
    | inl below ↦ elim (cases_Bool (is_ending s m p i)) [
      | inl so ↦ absurd (let g : ((nat_lt m p && b) || true) ≡ false = rw so at h in grind arith)
      | inr not_so ↦ ih not_so q a below
    ]
    | inr above ↦ absurd (omega arith)
  ]
]

whole_from : (s : ℕ → MessageChanges) (m p i : ℕ) → is_ending s m p i ≡ false → StaysOpen s p m i
unfolding is_ending
whole_from s m zero i h = λ q a b. absurd (omega arith)
whole_from s m (suc p) i h = whole_step s m p i (destroys_id (s p) i) refl h (whole_from s m p i)

whole_to : (s : ℕ → MessageChanges) (m p i : ℕ) → StaysOpen s p m i → is_ending s m p i ≡ false
unfolding is_ending
whole_to s m zero i h = refl
whole_to s m (suc p) i h = elim (cases_Bool (nat_lt m p)) [
  | inl so ↦ rw (so, h p (ltb-true m p so) (omega arith), whole_to s m p i (λ q a b. h q a (omega arith))) refl
  | inr not_so ↦ rw (not_so, whole_to s m p i (λ q a b. h q a (omega arith))) refl
]

pub open_is : (s : ℕ → MessageChanges) (p m i : ℕ) → (is_ending s m p i ≡ false) ↔ StaysOpen s p m i
open_is s p m i = (whole_from s m p i, whole_to s m p i)

-- ---- used

later_used : (s : ℕ → MessageChanges) (p i : ℕ) → WasUsed s p i → WasUsed s (suc p) i
later_used s p i w = record { birth = w.birth; before = (let b = w.before in omega (arith, b)); made = w.made }

made_id : (o : Option NewObject) (new : NewObject) → o ≡ Some new → is_made o new.id ≡ true
made_id o new e = rw e (eq-eqb new.id new.id refl)

used_past : (s : ℕ → MessageChanges) (p i : ℕ) (new : NewObject) → (s p).made ≡ Some new → new.id ≤ used s p + 1
    → (i ≤ used s p → WasUsed s p i) → i ≤ max new.id (used s p) → WasUsed s (suc p) i
used_past s p i new e next ih h = elim (cases_lt (used s p) i) [
  | inl above ↦ (let same : new.id ≡ i = omega arith in
      record {
        birth = p;
        before = omega arith;
        made = subst (λ (x : ℕ). makes_id (s p) x ≡ true) same
            (made_id (s p).made new e);
      })
  | inr fine ↦ later_used s p i (ih fine)
]

used_step : (s : ℕ → MessageChanges) (p i : ℕ) (o : Option NewObject) → (s p).made ≡ o
    → ((new : NewObject) → o ≡ Some new → is_of_server new.id ≡ false → new.id ≤ used s p + 1)
    → (i ≤ used s p → WasUsed s p i) → i ≤ used_by o (used s p) → WasUsed s (suc p) i
used_step s p i None e next ih h = later_used s p i (ih h)
used_step s p i (Some new) e next ih h = elim (cases_Bool (is_of_server new.id)) [
  | inl of_server ↦ (let same : i ≤ used s p = rw of_server at h in later_used s p i (ih same))
  | inr of_client ↦ (let past : i ≤ max new.id (used s p) = rw of_client at h
      in used_past s p i new e (next new refl of_client) ih past)
]

used_from : (s : ℕ → MessageChanges) (p i : ℕ) → AreFresh s p → 0 < i → i ≤ used s p → WasUsed s p i
unfolding used
used_from s zero i fresh pos h = absurd (omega arith)
used_from s (suc p) i fresh pos h = used_step s p i (s p).made refl
    (λ new e of_client. ((fresh p (omega arith)).next new e of_client).1)
    (used_from s p i (λ q b. fresh q (omega arith)) pos) h

used_keeps : (o : Option NewObject) (n : ℕ) → n ≤ used_by o n
used_keeps None n = omega arith
used_keeps (Some new) n = elim (cases_Bool (is_of_server new.id))
    [ inl of_server ↦ rw of_server (omega arith) | inr of_client ↦ rw of_client (omega arith) ]

made_used : (o : Option NewObject) (n i : ℕ) → is_of_server i ≡ false → is_made o i ≡ true → i ≤ used_by o n
made_used None n i of_client h = absurd (cc)
made_used (Some new) n i of_client h = let e = eqb-true new.id i h in
    let same : is_of_server new.id ≡ false = ap (λ (x : ℕ). is_of_server x) e ∙ of_client in
    rw same (omega (arith, e))

used_at : (s : ℕ → MessageChanges) (p q i : ℕ) → is_of_server i ≡ false → q < p → makes_id (s q) i ≡ true
    → i ≤ used s p
unfolding used
used_at s zero q i of_client b m = absurd (omega arith)
used_at s (suc p) q i of_client b m = elim (cases_order q p) [
  | inl same ↦ made_used (s p).made (used s p) i of_client (subst (λ (x : ℕ). makes_id (s x) i ≡ true) same m)
  | inr o ↦ elim o [
    | inl less ↦ (let u = used_at s p q i of_client less m in let k = used_keeps (s p).made (used s p) in omega (arith, u, k))
    | inr more ↦ absurd (omega arith)
  ]
]

made_some : (o : Option NewObject) (i : ℕ) → is_made o i ≡ true → (new : NewObject) × (o ≡ Some new) × (new.id ≡ i)
made_some None i h = absurd (cc)
made_some (Some new) i h = (new, refl, eqb-true new.id i h)

pub used_is : (s : ℕ → MessageChanges) (p i : ℕ) → AreFresh s p → is_of_server i ≡ false
    → ((0 < i) × (i ≤ used s p)) ↔ WasUsed s p i
used_is s p i fresh of_client = (
  λ h. used_from s p i fresh h.0 h.1,
  λ w. (
    let n = made_some (s w.birth).made i w.made in let e = n.2 in
        let same : is_of_server n.0.id ≡ false = ap (λ (x : ℕ). is_of_server x) e ∙ of_client in
        let f = (fresh w.birth w.before).next n.0 n.1 same in let pos = f.0
        in omega (arith, pos, e),
    used_at s p w.birth i of_client w.before w.made,
  ),
)

-- ---- used, in the server's range

server_used_past : (s : ℕ → MessageChanges) (p i : ℕ) (new : NewObject) → (s p).made ≡ Some new
    → first_server_id ≤ new.id → new.id ≤ first_server_id + server_used s p
    → (i < first_server_id + server_used s p → WasUsed s p i)
    → i < first_server_id + max (new.id - first_server_id + 1) (server_used s p) → WasUsed s (suc p) i
server_used_past s p i new e first next ih h = elim (cases_lt i (first_server_id + server_used s p)) [
  | inl fine ↦ later_used s p i (ih fine)
  | inr above ↦ (let same : new.id ≡ i = omega arith in
      record {
        birth = p;
        before = omega arith;
        made = subst (λ (x : ℕ). makes_id (s p) x ≡ true) same
            (made_id (s p).made new e);
      })
]

server_used_step : (s : ℕ → MessageChanges) (p i : ℕ) (o : Option NewObject) → (s p).made ≡ o
    → ((new : NewObject) → o ≡ Some new → is_of_server new.id ≡ true → new.id ≤ first_server_id + server_used s p)
    → (i < first_server_id + server_used s p → WasUsed s p i)
    → i < first_server_id + server_used_by o (server_used s p) → WasUsed s (suc p) i
server_used_step s p i None e next ih h = later_used s p i (ih h)
server_used_step s p i (Some new) e next ih h = elim (cases_Bool (is_of_server new.id)) [
  | inl of_server ↦ (let past : i < first_server_id + max (new.id - first_server_id + 1) (server_used s p) =
      rw of_server at h
      in server_used_past s p i new e (leb-true first_server_id new.id of_server) (next new refl of_server) ih past)
  | inr of_client ↦ (let same : i < first_server_id + server_used s p = rw of_client at h in later_used s p i (ih same))
]

server_used_from : (s : ℕ → MessageChanges) (p i : ℕ) → AreFresh s p → is_of_server i ≡ true
    → i < first_server_id + server_used s p → WasUsed s p i
unfolding server_used
server_used_from s zero i fresh of_server h = absurd (let first = leb-true first_server_id i of_server
    in omega (arith, first))
server_used_from s (suc p) i fresh of_server h = server_used_step s p i (s p).made refl
    (λ new e of_it. (fresh p (omega arith)).next_of_server new e of_it)
    (server_used_from s p i (λ q b. fresh q (omega arith)) of_server) h

server_used_keeps : (o : Option NewObject) (n : ℕ) → n ≤ server_used_by o n
server_used_keeps None n = omega arith
server_used_keeps (Some new) n = elim (cases_Bool (is_of_server new.id))
    [ inl of_server ↦ rw of_server (omega arith) | inr of_client ↦ rw of_client (omega arith) ]

made_server_used : (o : Option NewObject) (n i : ℕ) → is_of_server i ≡ true → is_made o i ≡ true
    → i < first_server_id + server_used_by o n
made_server_used None n i of_server h = absurd (cc)
made_server_used (Some new) n i of_server h = let e = eqb-true new.id i h in
    let same : is_of_server new.id ≡ true = ap (λ (x : ℕ). is_of_server x) e ∙ of_server in
    let first = leb-true first_server_id i of_server in
    rw same (omega (arith, e, first))

server_used_at : (s : ℕ → MessageChanges) (p q i : ℕ) → is_of_server i ≡ true → q < p → makes_id (s q) i ≡ true
    → i < first_server_id + server_used s p
unfolding server_used
server_used_at s zero q i of_server b m = absurd (omega arith)
server_used_at s (suc p) q i of_server b m = elim (cases_order q p) [
  | inl same ↦ made_server_used (s p).made (server_used s p) i of_server
      (subst (λ (x : ℕ). makes_id (s x) i ≡ true) same m)
  | inr o ↦ elim o [
    | inl less ↦ (let u = server_used_at s p q i of_server less m
        in let k = server_used_keeps (s p).made (server_used s p) in omega (arith, u, k))
    | inr more ↦ absurd (omega arith)
  ]
]

pub server_used_is : (s : ℕ → MessageChanges) (p i : ℕ) → AreFresh s p → is_of_server i ≡ true
    → (i < first_server_id + server_used s p) ↔ WasUsed s p i
server_used_is s p i fresh of_server = (
  λ h. server_used_from s p i fresh of_server h,
  λ w. server_used_at s p w.birth i of_server w.before w.made,
)

-- ---- advertised

later_advertised : (s : ℕ → MessageChanges) (p n i v : ℕ) → WasAdvertised s p n i v → WasAdvertised s (suc p) n i v
later_advertised s p n i v w = record {
  event = w.event;
  before = (let b = w.before in omega (arith, b));
  global = w.global;
  is = w.is;
  name_is = w.name_is;
  iface_is = w.iface_is;
  version_is = w.version_is;
}

advertised_step : (s : ℕ → MessageChanges) (p n i v t : ℕ) (o : Option AdvertisedGlobal) → (s p).advertised ≡ o
    → (v ≤ t → WasAdvertised s p n i v) → v ≤ advertised_by o n i t → WasAdvertised s (suc p) n i v
advertised_step s p n i v t None e ih h = later_advertised s p n i v (ih h)
advertised_step s p n i v t (Some g) e ih h = elim (cases_Bool (advertises n i g)) [
  | inl both ↦ elim (cases_lt t v) [
    | inl above ↦ (let parts = and_parts (nat_eq g.name n) (nat_eq g.iface.0 i) both
        in let m : v ≤ max g.version t = rw both at h in
        record {
          event = p;
          before = omega arith;
          global = g;
          is = e;
          name_is = eqb-true g.name n parts.0;
          iface_is = eqb-true g.iface.0 i parts.1;
          version_is = omega arith;
        })
    | inr fine ↦ later_advertised s p n i v (ih fine)
  ]
  | inr other ↦ (let m : v ≤ t = rw other at h in later_advertised s p n i v (ih m))
]

advertised_from : (s : ℕ → MessageChanges) (p n i v : ℕ) → 0 < v → v ≤ advertised_version s p n i
    → WasAdvertised s p n i v
unfolding advertised_version
advertised_from s zero n i v pos h = absurd (omega arith)
advertised_from s (suc p) n i v pos h = advertised_step s p n i v (advertised_version s p n i) (s p).advertised refl
    (advertised_from s p n i v pos) h

advertised_keeps_once : (g : AdvertisedGlobal) (n i t : ℕ) → t ≤ advertised_once g n i t
advertised_keeps_once g n i t = elim (cases_Bool (advertises n i g))
    [ inl both ↦ rw both (omega arith) | inr other ↦ rw other (omega arith) ]

pub advertised_keeps : (o : Option AdvertisedGlobal) (n i t : ℕ) → t ≤ advertised_by o n i t
advertised_keeps None n i t = omega arith
advertised_keeps (Some g) n i t = advertised_keeps_once g n i t

advertised_here : (o : Option AdvertisedGlobal) (g : AdvertisedGlobal) (n i v t : ℕ) → o ≡ Some g → g.name ≡ n
    → g.iface.0 ≡ i → v ≤ g.version → v ≤ advertised_by o n i t
advertised_here o g n i v t e a b h = rw (e, eq-eqb g.name n a, eq-eqb g.iface.0 i b) (omega arith)

advertised_at : (s : ℕ → MessageChanges) (p n i v : ℕ) → WasAdvertised s p n i v → v ≤ advertised_version s p n i
unfolding advertised_version
advertised_at s zero n i v w = absurd (let b = w.before in omega (arith, b))
advertised_at s (suc p) n i v w = elim (cases_order w.event p) [
  | inl same ↦ advertised_here (s p).advertised w.global n i v (advertised_version s p n i)
      (subst (λ (x : ℕ). (s x).advertised ≡ Some w.global) same w.is) w.name_is w.iface_is w.version_is
  | inr o ↦ elim o [
    | inl less ↦ (let u = advertised_at s p n i v
        (record {
          event = w.event;
          before = less;
          global = w.global;
          is = w.is;
          name_is = w.name_is;
          iface_is = w.iface_is;
          version_is = w.version_is;
        }) in
        let k = advertised_keeps (s p).advertised n i (advertised_version s p n i) in omega (arith, u, k))
    | inr more ↦ absurd (let b = w.before in omega (arith, b))
  ]
]

pub advertised_is : (s : ℕ → MessageChanges) (p n i v : ℕ) → 0 < v
    → (v ≤ advertised_version s p n i) ↔ WasAdvertised s p n i v
advertised_is s p n i v pos = (advertised_from s p n i v pos, advertised_at s p n i v)
