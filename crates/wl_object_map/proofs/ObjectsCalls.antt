-- How the calls of the objects of both ranges change their tables.
use Rattle.std.proofs.Common.{◌≡◌, ℕ, sym, ◌∙◌, ap, subst, refl, Bool, true, false, cond, not, ◌&&◌, inl, inr}
use Rattle.std.proofs.lemmas.Bool.{cases_Bool}
use Rattle.std.specs.Prelude.{OnOk, OnErr}
use Rattle.std.specs.declared.result.Result.{Result}
use Rattle.std.specs.declared.result.Result.TheVariants.{Ok, Err}
use Rattle.wl_wire.specs.declared.kind.Iface.{Iface}
use Rattle.wl_object_map.specs.declared.object.Object.{Object}
use Rattle.wl_object_map.specs.declared.object.TableError.{TableError}
use Rattle.wl_object_map.specs.declared.object.TableError.TheVariants.{NoIds, NotNext, InUse}
use Rattle.wl_object_map.specs.declared.object.Maker.{Maker}
use Rattle.wl_object_map.specs.declared.object.Maker.TheVariants.{Client, Server}
use Rattle.wl_object_map.specs.Ranges.{is_of_server, table_id}
use Rattle.wl_object_map.specs.View.{View, Sound, is_held, free_or_next, has_room, can_open, opened_at, opened}
use Rattle.wl_object_map.specs.Sounds.{Sound-opened_at, Sound-opened}
use Rattle.wl_object_map.specs.Objects.{Objects, changed_at, maker_of}
use Rattle.wl_object_map.specs.ObjectsLaws.{changed_client, changed_server}

-- An id's maker says in which range the id is.

in_client_range : (id : ℕ) → maker_of id ≡ Client → is_of_server id ≡ false
in_client_range id e = by_range (is_of_server id) e
  where
    by_range : (b : Bool) → cond b Server Client ≡ Client → b ≡ false
    by_range true e = absurd (cc e)
    by_range false e = refl

in_server_range : (id : ℕ) → maker_of id ≡ Server → is_of_server id ≡ true
in_server_range id e = by_range (is_of_server id) e
  where
    by_range : (b : Bool) → cond b Server Client ≡ Server → b ≡ true
    by_range true e = refl
    by_range false e = absurd (cc e)

-- One table was changed.

pub client_changed : (change : View → ℕ → View) (o : Objects) (id : ℕ) {maker : Maker} {new : View}
    → maker ≡ maker_of id → maker ≡ Client → new ≡ change o.client id
    → ◌≡◌ {A = Objects} (record o { client = new }) (changed_at change o id)
client_changed change o id of_id is e =
    (λ i. record o { client = e i }) ∙ sym (changed_client change o id (in_client_range id (sym of_id ∙ is)))

pub server_changed : (change : View → ℕ → View) (o : Objects) (id : ℕ) {maker : Maker} {place : ℕ} {old new : View}
    {range : Bool}
    → maker ≡ maker_of id → maker ≡ Server → o.server ≡ old → o.has_server_range ≡ range → place ≡ table_id id
    → new ≡ change old place
    → ◌≡◌ {A = Objects} (record { client = o.client; server = new; has_server_range = range }) (changed_at change o id)
server_changed change o id of_id is was kept at e =
    (λ i. record {
      client = o.client;
      server = (e ∙ (λ j. change (sym was j) (at j))) i;
      has_server_range = sym kept i;
    })
    ∙ sym (changed_server change o id (in_server_range id (sym of_id ∙ is)))

-- An opening keeps a table sound, even if it is refused.

pub opened_at_or_same : (answer : Result Object TableError) (old new : View) (id : ℕ) (iface : Iface) (version : ℕ)
    → Sound old
    → OnOk answer (new ≡ opened_at old id iface version) → OnErr answer (new ≡ old)
    → (is_held old id ≡ true → answer ≡ Err InUse)
    → ((not (is_held old id) && not (free_or_next old id)) ≡ true → answer ≡ Err NotNext)
    → ((free_or_next old id && not (has_room old id)) ≡ true → answer ≡ Err NoIds)
    → Sound new
opened_at_or_same (Err e) old new id iface version s ok err in_use not_next no_ids = subst Sound (sym err) s
opened_at_or_same (Ok object) old new id iface version s ok err in_use not_next no_ids =
    let free : free_or_next old id ≡ true = elim (cases_Bool (free_or_next old id)) [
      | inl f ↦ f
      | inr f ↦ elim (cases_Bool (is_held old id)) [
        | inl h ↦ (let bad = in_use h in cc)
        | inr h ↦ (let bad = not_next (λ i. not (h i) && not (f i)) in cc)
      ]
    ] in
    let room : has_room old id ≡ true = elim (cases_Bool (has_room old id)) [
      | inl h ↦ h
      | inr h ↦ (let bad = no_ids (λ i. free i && not (h i)) in cc)
    ] in
    subst Sound (sym ok) (Sound-opened_at old id iface version s free room)

pub opened_or_same : (answer : Result Object TableError) (old new : View) (iface : Iface) (version : ℕ)
    → Sound old
    → OnOk answer (new ≡ opened old iface version) → OnErr answer (new ≡ old)
    → (not (can_open old) ≡ true → answer ≡ Err NoIds)
    → Sound new
opened_or_same (Err e) old new iface version s ok err no_ids = subst Sound (sym err) s
opened_or_same (Ok object) old new iface version s ok err no_ids =
    let room : can_open old ≡ true = elim (cases_Bool (can_open old)) [
      | inl h ↦ h
      | inr h ↦ (let bad = no_ids (ap not h) in cc)
    ] in
    subst Sound (sym ok) (Sound-opened old iface version s room)
