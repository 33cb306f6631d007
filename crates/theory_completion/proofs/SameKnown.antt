-- What is known at a place, if the messages before it change the same.
use Rattle.std.proofs.Common.{◌≡◌, ℕ, zero, suc, ◌+◌, ◌<◌, Bool, true, false, cond, not, ◌&&◌, ◌||◌, Some, None}
use Rattle.std.proofs.Common.{IfSome, List, refl, ap, ◌∙◌, arith, nat_le, nat_lt}
use Rattle.std.specs.Prelude.{Option, option_map, nat_eq}
use Rattle.std.specs.Option.{option_map_or}
use Rattle.std.proofs.Math.Path.{fun_ext}
use Rattle.std.proofs.lemmas.Bool.Decides.{nat_tests}
use Rattle.wl_sigs.specs.Rules.{is_ended_by_request}
use Rattle.wl_sigs.specs.Tables.{Interface, interface_at}
use Rattle.wl_object_map.specs.declared.object.Entry.{Entry}
use Rattle.wl_object_map.specs.Ranges.{is_of_server}
use Rattle.wl_objects.specs.Messages.{NewObject}
use Rattle.wl_recording.specs.declared.piece.Direction.{Direction}
use Rattle.wl_check.specs.declared.changes.MessageChanges.{MessageChanges}
use Rattle.wl_check.specs.Merged.{same_direction}
use Rattle.wl_check.specs.Places.{holder, is_ending, live_or_zombie, entry_made_at, object_named, used, is_made, frees_id}
use Rattle.wl_check.specs.Places.{server_used, advertised_version, taken, KnownAtPlace, known, is_id, used_by, makes_id}
use Rattle.wl_check.specs.Places.{server_used_by, advertised_by, made_entry, new_or_null, deletes_id}
use Rattle.wl_check.proofs.KnownBehindMessage.{holder_before}
use Rattle.theory_completion.specs.Doubt.{makes_unsettled, has_version}

-- two messages change the same, but for the globals of interfaces from an index on
pub record IsAlike (count : ℕ) (a b : MessageChanges) : Type 0 where
  pub direction : a.direction ≡ b.direction
  pub made : a.made ≡ b.made
  pub deleted : a.deleted ≡ b.deleted
  pub destroyed : a.destroyed ≡ b.destroyed
  pub tokens : a.tokens ≡ b.tokens
  pub advertised : (name iface version : ℕ) → iface < count
      → advertised_by a.advertised name iface version ≡ advertised_by b.advertised name iface version

-- the messages before a place do
abbrev pub AreAlike : ℕ → (ℕ → MessageChanges) → (ℕ → MessageChanges) → ℕ → Type 0
AreAlike count s t p = (q : ℕ) → q < p → IsAlike count (s q) (t q)

less : (count : ℕ) (s t : ℕ → MessageChanges) (p : ℕ) → AreAlike count s t (suc p) → AreAlike count s t p
less count s t p a q h = a q (omega (arith, h))

holder_alike : (count : ℕ) (s t : ℕ → MessageChanges) (p id : ℕ) → AreAlike count s t p → holder s p id ≡ holder t p id
unfolding holder
holder_alike count s t zero id a = refl
holder_alike count s t (suc p) id a =
    let x = a p (omega arith) in
    let m = x.made in
    let d = x.deleted in
    let h = holder_alike count s t p id (less count s t p a) in
    λ i. cond (is_made (m i) id) (Some p) (cond (frees_id (d i) id) None (h i))

is_ending_alike : (count : ℕ) (s t : ℕ → MessageChanges) (birth p id : ℕ) → AreAlike count s t p
    → is_ending s birth p id ≡ is_ending t birth p id
unfolding is_ending
is_ending_alike count s t birth zero id a = refl
is_ending_alike count s t birth (suc p) id a =
    let x = a p (omega arith) in
    let d = x.destroyed in
    let r = is_ending_alike count s t birth p id (less count s t p a) in
    λ i. (nat_lt birth p && is_id (d i) id) || r i

object_alike : (count : ℕ) (s t : ℕ → MessageChanges) (p id : ℕ) (o : Option ℕ) → AreAlike count s t p
    → IfSome o (λ m. m < p)
    → option_map (λ m. entry_made_at s m (live_or_zombie (is_ending s m p id))) o
    ≡ option_map (λ m. entry_made_at t m (live_or_zombie (is_ending t m p id))) o
object_alike count s t p id None a h = refl
object_alike count s t p id (Some m) a h =
    let x = a m h in
    let made = x.made in
    let e = is_ending_alike count s t m p id a in
    λ i. Some (made_entry m (live_or_zombie (e i)) (new_or_null (made i)))

named_alike : (count : ℕ) (s t : ℕ → MessageChanges) (p id : ℕ) → AreAlike count s t p
    → object_named s p id ≡ object_named t p id
named_alike count s t p id a =
    ap (option_map (λ m. entry_made_at s m (live_or_zombie (is_ending s m p id)))) (holder_alike count s t p id a)
    ∙ object_alike count s t p id (holder t p id) a (holder_before t p id)

used_alike : (count : ℕ) (s t : ℕ → MessageChanges) (p : ℕ) → AreAlike count s t p → used s p ≡ used t p
unfolding used
used_alike count s t zero a = refl
used_alike count s t (suc p) a =
    let x = a p (omega arith) in
    let m = x.made in
    let u = used_alike count s t p (less count s t p a) in
    λ i. used_by (m i) (u i)

server_used_alike : (count : ℕ) (s t : ℕ → MessageChanges) (p : ℕ) → AreAlike count s t p
    → server_used s p ≡ server_used t p
unfolding server_used
server_used_alike count s t zero a = refl
server_used_alike count s t (suc p) a =
    let x = a p (omega arith) in
    let m = x.made in
    let u = server_used_alike count s t p (less count s t p a) in
    λ i. server_used_by (m i) (u i)

advertised_alike : (count : ℕ) (s t : ℕ → MessageChanges) (p name iface : ℕ) → AreAlike count s t p → iface < count
    → advertised_version s p name iface ≡ advertised_version t p name iface
unfolding advertised_version
advertised_alike count s t zero name iface a below = refl
advertised_alike count s t (suc p) name iface a below =
    let x = a p (omega arith) in
    x.advertised name iface (advertised_version s p name iface) below
    ∙ ap (advertised_by (t p).advertised name iface)
    (advertised_alike count s t p name iface (less count s t p a) below)

taken_alike : (count : ℕ) (s t : ℕ → MessageChanges) (p : ℕ) (d : Direction) → AreAlike count s t p
    → taken s p d ≡ taken t p d
unfolding taken
taken_alike count s t zero d a = refl
taken_alike count s t (suc p) d a =
    let x = a p (omega arith) in
    let way = x.direction in
    let tokens = x.tokens in
    let k = taken_alike count s t p d (less count s t p a) in
    λ i. k i + cond (same_direction (way i) d) (tokens i) 0

-- what is known is the same, but for the globals of interfaces from an index on
pub record IsKnownAlike (count : ℕ) (k l : KnownAtPlace) : Type 0 where
  pub object : k.object ≡ l.object
  pub used_is : k.used ≡ l.used
  pub server_used_is : k.server_used ≡ l.server_used
  pub taken_is : (d : Direction) → k.taken d ≡ l.taken d
  pub advertised : (name iface : ℕ) → iface < count → k.advertised_version name iface ≡ l.advertised_version name iface

pub known_alike : (count : ℕ) (s t : ℕ → MessageChanges) (p : ℕ) → AreAlike count s t p
    → IsKnownAlike count (known s p) (known t p)
known_alike count s t p a = record {
  object = fun_ext (λ id. named_alike count s t p id a);
  used_is = used_alike count s t p a;
  server_used_is = server_used_alike count s t p a;
  taken_is = λ d. taken_alike count s t p d a;
  advertised = λ name iface below. advertised_alike count s t p name iface a below;
}

-- ---- objects of the server are settled

-- the tables say whether a request can end an object of this version
abbrev pub Settles : List Interface → ℕ → ℕ → Type 0
Settles tables place version =
    (option_map_or (λ (i : Interface). nat_le version i.version) (interface_at tables place) false
    || is_ended_by_request version (interface_at tables place)) ≡ true

settles_if : (o h e : Bool) → o ≡ true → (o && not h && not e) ≡ false → (h || e) ≡ true
settles_if false h e is u = absurd (cc (is))
settles_if true true e is u = refl
settles_if true false true is u = refl
settles_if true false false is u = absurd (cc (u))

same_id : (a b : ℕ) → nat_eq a b ≡ true → a ≡ b
same_id a b h = grind (arith, nat_tests, h)

settled_made : (tables : List Interface) (made : Option NewObject) (id : ℕ) → is_made made id ≡ true
    → is_of_server id ≡ true → makes_unsettled tables made ≡ false
    → Settles tables (new_or_null made).iface.0 (new_or_null made).version
settled_made tables None id is of u = absurd (cc (is))
settled_made tables (Some new) id is of u =
    settles_if (is_of_server new.id) (has_version tables new.iface new.version)
    (is_ended_by_request new.version (interface_at tables new.iface.0))
    (ap is_of_server (same_id new.id id is) ∙ of) u

maker_step : (s : ℕ → MessageChanges) (p id : ℕ) (b : Bool) → makes_id (s p) id ≡ b → (del : Bool) (o : Option ℕ)
    → IfSome o (λ m. (m < p) × (makes_id (s m) id ≡ true))
    → IfSome (cond b (Some p) (cond del None o)) (λ m. (m < suc p) × (makes_id (s m) id ≡ true))
maker_step s p id true is del o h = (omega arith, is)
maker_step s p id false is true o h = tt
maker_step s p id false is false None h = tt
maker_step s p id false is false (Some m) h = (let below = h.0 in omega (arith, below), h.1)

-- the message that made what an id names makes this id
holder_makes : (s : ℕ → MessageChanges) (p id : ℕ)
    → IfSome (holder s p id) (λ m. (m < p) × (makes_id (s m) id ≡ true))
unfolding holder
holder_makes s zero id = tt
holder_makes s (suc p) id =
    maker_step s p id (makes_id (s p) id) refl (deletes_id (s p) id) (holder s p id) (holder_makes s p id)

named_is_settled : (tables : List Interface) (s : ℕ → MessageChanges) (p id : ℕ) (o : Option ℕ)
    → ((q : ℕ) → q < p → makes_unsettled tables (s q).made ≡ false) → is_of_server id ≡ true
    → IfSome o (λ m. (m < p) × (makes_id (s m) id ≡ true))
    → IfSome (option_map (λ m. entry_made_at s m (live_or_zombie (is_ending s m p id))) o)
    (λ (e : Entry). Settles tables e.iface.0 e.version)
named_is_settled tables s p id None all of h = tt
named_is_settled tables s p id (Some m) all of h = settled_made tables (s m).made id h.1 of (all m h.0)

-- what an id of the server's range names
pub object_is_settled : (tables : List Interface) (s : ℕ → MessageChanges) (p id : ℕ)
    → ((q : ℕ) → q < p → makes_unsettled tables (s q).made ≡ false) → is_of_server id ≡ true
    → IfSome (object_named s p id) (λ (e : Entry). Settles tables e.iface.0 e.version)
object_is_settled tables s p id all of = named_is_settled tables s p id (holder s p id) all of (holder_makes s p id)
