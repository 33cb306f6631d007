-- Laws of the objects in both ranges: an id's row after each change, and that each change keeps
-- both tables sound.
use Rattle.std.proofs.Common.{◌≡◌, ◌≢◌, ℕ, ◌+◌, ◌<◌, ◌≤◌, refl, sym, ◌∙◌, ap, cond}
use Rattle.std.proofs.Common.{Bool, true, false, arith, eqb, is_some, subst, ◌⊎◌, inl, inr, ⊎_elim}
use Rattle.std.proofs.lemmas.Bool.{cases_Bool}
use Rattle.std.proofs.lemmas.Grind.{common_steps}
use Rattle.std.proofs.lemmas.Bool.Decides.{nat_tests}
use Rattle.std.specs.Option.{option_map}
use Rattle.std.specs.declared.option.Option.{Option}
use Rattle.std.specs.declared.option.Option.TheVariants.{None, Some}
use Rattle.wl_wire.specs.declared.kind.Iface.{Iface}
use Rattle.wl_object_map.specs.declared.object.Entry.{Entry}
use Rattle.wl_object_map.specs.declared.object.State.TheVariants.{Live}
use Rattle.wl_object_map.specs.declared.object.Maker.{Maker}
use Rattle.wl_object_map.specs.declared.object.Maker.TheVariants.{Client, Server}
use Rattle.wl_object_map.specs.Ranges.{first_server_id, is_of_server, table_id, wire_id}
use Rattle.wl_object_map.specs.View as table
use Rattle.wl_object_map.specs.View.{View, Sound, zombie}
use Rattle.wl_object_map.specs.Views as rows
use Rattle.wl_object_map.specs.Sounds as sounds
use Rattle.wl_object_map.specs.Objects.{Objects, ObjectsAreSound, in_range, changed_at, look}
use Rattle.wl_object_map.specs.Objects.{is_held, births, free_or_next, has_room, next_id, can_open}
use Rattle.wl_object_map.specs.Objects.{no_interface, IsServerRangeNew, opening, opened_at, opened}
use Rattle.wl_object_map.specs.Objects.{closed, zombied}

-- Ids and ranges.

pub of_server : (id : ℕ) → first_server_id ≤ id → is_of_server id ≡ true
of_server id h = grind (arith, common_steps, nat_tests, h)

pub of_client : (id : ℕ) → id < first_server_id → is_of_server id ≡ false
of_client id h = grind (arith, common_steps, nat_tests, h)

pub is_from : (id : ℕ) → is_of_server id ≡ true → first_server_id ≤ id
is_from id h = grind (arith, common_steps, nat_tests, h)

pub is_below : (id : ℕ) → is_of_server id ≡ false → id < first_server_id
is_below id h = grind (arith, common_steps, nat_tests, h)

-- the place of a server id is at least 2
pub place_not_one : (id : ℕ) → is_of_server id ≡ true → table_id id ≢ 1
place_not_one id h e = let l = is_from id h in absurd (omega (arith, l, e))

same_place : (q id : ℕ) → is_of_server q ≡ true → is_of_server id ≡ true
    → eqb (table_id q) (table_id id) ≡ eqb q id
same_place q id a b =
    let l = is_from q a in let k = is_from id b in grind (arith, common_steps, nat_tests, l, k)

pub apart : (q id : ℕ) → is_of_server q ≡ true → is_of_server id ≡ false → eqb q id ≡ false
apart q id a b =
    let l = is_from q a in let k = is_below id b in grind (arith, common_steps, nat_tests, l, k)

apart_too : (q id : ℕ) → is_of_server q ≡ false → is_of_server id ≡ true → eqb q id ≡ false
apart_too q id a b =
    let l = is_below q a in let k = is_from id b in grind (arith, common_steps, nat_tests, l, k)

-- An id's row after each change.

pub in_range-server : {X : Type 0} (says : View → ℕ → X) (o : Objects) (id : ℕ)
    → is_of_server id ≡ true
    → in_range says o id ≡ says o.server (table_id id)
in_range-server says o id h = ap (λ b. cond b (says o.server (table_id id)) (says o.client id)) h

pub in_range-client : {X : Type 0} (says : View → ℕ → X) (o : Objects) (id : ℕ)
    → is_of_server id ≡ false
    → in_range says o id ≡ says o.client id
in_range-client says o id h = ap (λ b. cond b (says o.server (table_id id)) (says o.client id)) h

pub changed_server : (change : View → ℕ → View) (o : Objects) (id : ℕ) → is_of_server id ≡ true
    → changed_at change o id ≡ record o { server = change o.server (table_id id) }
changed_server change o id h = ap (λ b. record o {
  client = cond b o.client (change o.client id);
  server = cond b (change o.server (table_id id)) o.server;
}) h

pub changed_client : (change : View → ℕ → View) (o : Objects) (id : ℕ) → is_of_server id ≡ false
    → changed_at change o id ≡ record o { client = change o.client id }
changed_client change o id h = ap (λ b. record o {
  client = cond b o.client (change o.client id);
  server = cond b (change o.server (table_id id)) o.server;
}) h

-- what a change does to the rows of one table, it does to the rows by ids on the wire
pub look-changed : (change : View → ℕ → View) (row : View → Option Entry → Option Entry)
    → ((view : View) (id q : ℕ) → table.look (change view id) q
    ≡ cond (eqb q id) (row view (table.look view q)) (table.look view q))
    → (o : Objects) (id q : ℕ)
    → look (changed_at change o id) q
    ≡ cond (eqb q id) (in_range (λ view place. row view (look o q)) o id) (look o q)
look-changed change row law o id q = elim (cases_Bool (is_of_server id)) [
  | inl s ↦
      (let new : Objects = record o { server = change o.server (table_id id) } in
      ap (λ (x : Objects). look x q) (changed_server change o id s)
      ∙ elim (cases_Bool (is_of_server q)) [
        | inl t ↦
            (let same : look o q ≡ table.look o.server (table_id q) =
            in_range-server table.look o q t in
            in_range-server table.look new q t
            ∙ law o.server (table_id id) (table_id q)
            ∙ (λ i. cond (same_place q id t s i) (row o.server (sym same i)) (sym same i))
            ∙ ap (λ (e : Option Entry). cond (eqb q id) e (look o q))
            (sym (in_range-server (λ view place. row view (look o q)) o id s)))
        | inr t ↦
            (in_range-client table.look new q t
            ∙ sym (in_range-client table.look o q t)
            ∙ sym (ap (λ b. cond b (in_range (λ view place. row view (look o q)) o id) (look o q))
            (apart_too q id t s)))
      ])
  | inr s ↦
      (let new : Objects = record o { client = change o.client id } in
      ap (λ (x : Objects). look x q) (changed_client change o id s)
      ∙ elim (cases_Bool (is_of_server q)) [
        | inl t ↦
            (in_range-server table.look new q t
            ∙ sym (in_range-server table.look o q t)
            ∙ sym (ap (λ b. cond b (in_range (λ view place. row view (look o q)) o id) (look o q))
            (apart q id t s)))
        | inr t ↦
            (let same : look o q ≡ table.look o.client q = in_range-client table.look o q t in
            in_range-client table.look new q t
            ∙ law o.client id q
            ∙ (λ i. cond (eqb q id) (row o.client (sym same i)) (sym same i))
            ∙ ap (λ (e : Option Entry). cond (eqb q id) e (look o q))
            (sym (in_range-client (λ view place. row view (look o q)) o id s)))
      ])
]

-- only wl_display has a row
pub look-opening : (display : Iface) (range : Bool) (q : ℕ)
    → look (opening display range) q
    ≡ cond (eqb q 1) (Some (record { birth = 0; iface = display; version = 1; state = Live })) None
look-opening display range q = elim (cases_Bool (is_of_server q)) [
  | inl t ↦
      in_range-server table.look (opening display range) q t
      ∙ rows.look-opening no_interface (table_id q)
      ∙ (let l = is_from q t in grind (arith, common_steps, nat_tests, l))
  | inr t ↦ in_range-client table.look (opening display range) q t ∙ rows.look-opening display q
]

-- in a new server range no id has a row
pub look-new_range : (o : Objects) (id : ℕ) → IsServerRangeNew o → is_of_server id ≡ true
    → look o id ≡ None
look-new_range o id new h =
    in_range-server table.look o id h
    ∙ ap (λ view. table.look view (table_id id)) new
    ∙ rows.look-opening no_interface (table_id id)
    ∙ (let l = is_from id h in grind (arith, common_steps, nat_tests, l))

-- the row of a new object that is the birth-th of its range
abbrev new_row : ℕ → Iface → ℕ → Entry
new_row birth iface version = record {
  birth = birth;
  iface = iface;
  version = version;
  state = Live;
}

-- the id has the new object's row; other rows stay
pub look-opened_at : (o : Objects) (id : ℕ) (iface : Iface) (version q : ℕ)
    → look (opened_at o id iface version) q
    ≡ cond (eqb q id)
    (Some (record { birth = births o id; iface = iface; version = version; state = Live }))
    (look o q)
look-opened_at o id iface version q =
    look-changed (λ view place. table.opened_at view place iface version)
    (λ view _. Some (new_row view.births iface version))
    (λ view place p. rows.look-opened_at view place iface version p) o id q
    ∙ ap (λ (e : Option Entry). cond (eqb q id) e (look o q)) (elim (cases_Bool (is_of_server id)) [
      | inl s ↦ in_range-server (λ view place. Some (new_row view.births iface version)) o id s
          ∙ ap (λ n. Some (new_row n iface version))
          (sym (in_range-server (λ view place. view.births) o id s))
      | inr s ↦ in_range-client (λ view place. Some (new_row view.births iface version)) o id s
          ∙ ap (λ n. Some (new_row n iface version))
          (sym (in_range-client (λ view place. view.births) o id s))
    ])

-- a value that does not depend on the table does not depend on the range
pub in_range-same : {X : Type 0} (x : X) (o : Objects) (id : ℕ)
    → in_range (λ view place. x) o id ≡ x
in_range-same x o id = elim (cases_Bool (is_of_server id)) [
  | inl s ↦ in_range-server (λ view place. x) o id s
  | inr s ↦ in_range-client (λ view place. x) o id s
]

-- the id has no row; other rows stay
pub look-closed : (o : Objects) (id q : ℕ)
    → look (closed o id) q ≡ cond (eqb q id) None (look o q)
look-closed o id q =
    look-changed table.closed (λ view e. None) rows.look-closed o id q
    ∙ ap (λ (e : Option Entry). cond (eqb q id) e (look o q)) (in_range-same None o id)

-- the id has the same row as a zombie; other rows stay
pub look-zombied : (o : Objects) (id q : ℕ)
    → look (zombied o id) q ≡ cond (eqb q id) (option_map zombie (look o q)) (look o q)
look-zombied o id q =
    look-changed table.zombied (λ view e. option_map zombie e) rows.look-zombied o id q
    ∙ ap (λ (e : Option Entry). cond (eqb q id) e (look o q))
    (in_range-same (option_map zombie (look o q)) o id)

-- Each change keeps both tables sound.

-- if the change keeps the table of the id's range sound
ObjectsAreSound-changed : (change : View → ℕ → View) (o : Objects) (id : ℕ) → ObjectsAreSound o
    → (is_of_server id ≡ true → Sound (change o.server (table_id id)))
    → (is_of_server id ≡ false → Sound (change o.client id))
    → ObjectsAreSound (changed_at change o id)
ObjectsAreSound-changed change o id s server client = elim (cases_Bool (is_of_server id)) [
  | inl h ↦ subst ObjectsAreSound (sym (changed_server change o id h))
      (record { client = s.client; server = server h })
  | inr h ↦ subst ObjectsAreSound (sym (changed_client change o id h))
      (record { client = client h; server = s.server })
]

pub ObjectsAreSound-opening : (display : Iface) (range : Bool)
    → ObjectsAreSound (opening display range)
ObjectsAreSound-opening display range = record {
  client = sounds.Sound-opening display;
  server = sounds.Sound-opening no_interface;
}

-- an opening at a freed or the next id
pub ObjectsAreSound-opened_at : (o : Objects) (id : ℕ) (iface : Iface) (version : ℕ)
    → ObjectsAreSound o
    → free_or_next o id ≡ true → has_room o id ≡ true
    → ObjectsAreSound (opened_at o id iface version)
ObjectsAreSound-opened_at o id iface version s free room =
    ObjectsAreSound-changed (λ view place. table.opened_at view place iface version) o id s
    (λ h. sounds.Sound-opened_at o.server (table_id id) iface version s.server
    (sym (in_range-server table.free_or_next o id h) ∙ free)
    (sym (in_range-server table.has_room o id h) ∙ room))
    (λ h. sounds.Sound-opened_at o.client id iface version s.client
    (sym (in_range-client table.free_or_next o id h) ∙ free)
    (sym (in_range-client table.has_room o id h) ∙ room))

held_server : (o : Objects) (id : ℕ) → is_of_server id ≡ true → is_held o id ≡ true
    → table.is_held o.server (table_id id) ≡ true
held_server o id h held = sym (ap is_some (in_range-server table.look o id h)) ∙ held

held_client : (o : Objects) (id : ℕ) → is_of_server id ≡ false → is_held o id ≡ true
    → table.is_held o.client id ≡ true
held_client o id h held = sym (ap is_some (in_range-client table.look o id h)) ∙ held

-- an opening in place of an id's row
pub ObjectsAreSound-reopened : (o : Objects) (id : ℕ) (iface : Iface) (version : ℕ)
    → ObjectsAreSound o
    → is_held o id ≡ true → id ≢ 1 → has_room o id ≡ true
    → ObjectsAreSound (opened_at o id iface version)
ObjectsAreSound-reopened o id iface version s held other room =
    ObjectsAreSound-changed (λ view place. table.opened_at view place iface version) o id s
    (λ h. sounds.Sound-reopened o.server (table_id id) iface version s.server
    (held_server o id h held) (place_not_one id h)
    (sym (in_range-server table.has_room o id h) ∙ room))
    (λ h. sounds.Sound-reopened o.client id iface version s.client
    (held_client o id h held) other (sym (in_range-client table.has_room o id h) ∙ room))

pub ObjectsAreSound-closed : (o : Objects) (id : ℕ) → ObjectsAreSound o → is_held o id ≡ true
    → id ≢ 1
    → ObjectsAreSound (closed o id)
ObjectsAreSound-closed o id s held other =
    ObjectsAreSound-changed table.closed o id s
    (λ h. sounds.Sound-closed o.server (table_id id) s.server (held_server o id h held)
    (place_not_one id h))
    (λ h. sounds.Sound-closed o.client id s.client (held_client o id h held) other)

pub ObjectsAreSound-zombied : (o : Objects) (id : ℕ) → ObjectsAreSound o → id ≢ 1
    → ObjectsAreSound (zombied o id)
ObjectsAreSound-zombied o id s other =
    ObjectsAreSound-changed table.zombied o id s
    (λ h. sounds.Sound-zombied o.server (table_id id) s.server (place_not_one id h))
    (λ h. sounds.Sound-zombied o.client id s.client other)

-- The next id of each maker.

-- it is in the maker's range
pub next_of_client : (o : Objects) → ObjectsAreSound o → is_of_server (next_id Client o) ≡ false
next_of_client o s =
    let f = rows.free_is o.client (table.next_id o.client) s.client
    (rows.free_or_next-next_id o.client) in
    let top = f.at_most_next in let e = s.client.ids_end in
    of_client (table.next_id o.client) (omega (arith, top, e))

pub next_of_server : (o : Objects) → ObjectsAreSound o → is_of_server (next_id Server o) ≡ true
next_of_server o s =
    let free = rows.free_or_next-next_id o.server in
    let null = (rows.free_is o.server (table.next_id o.server) s.server free).above_null in
    let other = rows.free_not_display o.server (table.next_id o.server) s.server free in
    of_server (wire_id (table.next_id o.server))
    (grind (arith, common_steps, nat_tests, null, other))

-- it is the next id of that range's table
pub table_id-wire_id : (place : ℕ) → table_id (wire_id place) ≡ place
table_id-wire_id place = omega arith

-- the next id is free in its range
pub free-next : (maker : Maker) (o : Objects) → ObjectsAreSound o
    → free_or_next o (next_id maker o) ≡ true
free-next Client o s =
    in_range-client table.free_or_next o (next_id Client o) (next_of_client o s)
    ∙ rows.free_or_next-next_id o.client
free-next Server o s =
    in_range-server table.free_or_next o (next_id Server o) (next_of_server o s)
    ∙ ap (table.free_or_next o.server) (table_id-wire_id (table.next_id o.server))
    ∙ rows.free_or_next-next_id o.server

-- it fits into a word
pub next-low : (maker : Maker) (o : Objects) → ObjectsAreSound o → next_id maker o < 4294967296
next-low Client o s =
    let f = rows.free_is o.client (table.next_id o.client) s.client
    (rows.free_or_next-next_id o.client) in
    let top = f.at_most_next in let e = s.client.ids_end in omega (arith, top, e)
next-low Server o s =
    let f = rows.free_is o.server (table.next_id o.server) s.server
    (rows.free_or_next-next_id o.server) in
    let top = f.at_most_next in let e = s.server.ids_end in omega (arith, top, e)

-- a free id has no row
pub free-no_row : (o : Objects) (id : ℕ) → ObjectsAreSound o → free_or_next o id ≡ true
    → look o id ≡ None
free-no_row o id s h = elim (cases_Bool (is_of_server id)) [
  | inl t ↦ in_range-server table.look o id t
      ∙ (rows.free_is o.server (table_id id) s.server
      (sym (in_range-server table.free_or_next o id t) ∙ h)).no_row
  | inr t ↦ in_range-client table.look o id t
      ∙ (rows.free_is o.client id s.client
      (sym (in_range-client table.free_or_next o id t) ∙ h)).no_row
]

-- so an opening at the next id opens in the maker's table
pub opened-client : (o : Objects) (iface : Iface) (version : ℕ) → ObjectsAreSound o
    → opened Client o iface version
    ≡ record o { client = table.opened o.client iface version }
opened-client o iface version s =
    changed_client (λ view place. table.opened_at view place iface version) o (next_id Client o)
    (next_of_client o s)

pub opened-server : (o : Objects) (iface : Iface) (version : ℕ) → ObjectsAreSound o
    → opened Server o iface version
    ≡ record o { server = table.opened o.server iface version }
opened-server o iface version s =
    changed_server (λ view place. table.opened_at view place iface version) o (next_id Server o)
    (next_of_server o s)
    ∙ ap (λ place. record o {
      server = table.opened_at o.server place iface version;
    }) (table_id-wire_id (table.next_id o.server))

pub ObjectsAreSound-opened : (maker : Maker) (o : Objects) (iface : Iface) (version : ℕ)
    → ObjectsAreSound o
    → can_open maker o ≡ true → ObjectsAreSound (opened maker o iface version)
ObjectsAreSound-opened Client o iface version s room =
    subst ObjectsAreSound (sym (opened-client o iface version s))
    (record {
      client = sounds.Sound-opened o.client iface version s.client room;
      server = s.server;
    })
ObjectsAreSound-opened Server o iface version s room =
    subst ObjectsAreSound (sym (opened-server o iface version s))
    (record {
      client = s.client;
      server = sounds.Sound-opened o.server iface version s.server room;
    })

-- What holds for the client's table holds for an id of the client's range.

pub births_of_client : (o : Objects) (id : ℕ) → is_of_server id ≡ false
    → births o id ≡ o.client.births
births_of_client o id h = in_range-client (λ view place. view.births) o id h

pub free_of_client : (o : Objects) (id : ℕ) → is_of_server id ≡ false
    → free_or_next o id ≡ table.free_or_next o.client id
free_of_client o id h = in_range-client table.free_or_next o id h

pub room_of_client : (o : Objects) (id : ℕ) → is_of_server id ≡ false
    → has_room o id ≡ table.has_room o.client id
room_of_client o id h = in_range-client table.has_room o id h

-- an id at which a client object can be opened: it is in the client's range, has no row, and is
-- from 1 to one past the ids used
pub record IsFree (o : Objects) (id : ℕ) : Type 0 where
  pub no_row : look o id ≡ None
  pub above_null : 0 < id
  pub at_most_next : id ≤ o.client.used + 1
  pub range : is_of_server id ≡ false

pub free_is : (o : Objects) (id : ℕ) → ObjectsAreSound o → table.free_or_next o.client id ≡ true
    → IsFree o id
free_is o id s h =
    let free = rows.free_is o.client id s.client h in
    let top = free.at_most_next in let e = s.client.ids_end in
    let range : is_of_server id ≡ false = of_client id (omega (arith, top, e)) in
    record {
      no_row = in_range-client table.look o id range ∙ free.no_row;
      above_null = free.above_null;
      at_most_next = top;
      range = range;
    }

pub opened_at-client : (o : Objects) (id : ℕ) (iface : Iface) (version : ℕ)
    → is_of_server id ≡ false
    → opened_at o id iface version
    ≡ record o { client = table.opened_at o.client id iface version }
opened_at-client o id iface version h =
    changed_client (λ view place. table.opened_at view place iface version) o id h

pub look-opened_by_client : (o : Objects) (id : ℕ) (iface : Iface) (version q : ℕ)
    → is_of_server id ≡ false
    → look (opened_at o id iface version) q
    ≡ cond (eqb q id) (Some (record {
      birth = o.client.births;
      iface = iface;
      version = version;
      state = Live;
    })) (look o q)
look-opened_by_client o id iface version q h =
    look-opened_at o id iface version q
    ∙ ap (λ n. cond (eqb q id) (Some (new_row n iface version)) (look o q))
    (births_of_client o id h)

-- The births and the ids used of the client's range after each change; a closing changes neither.

client-changed : {X : Type 0} (says : View → X) (change : View → ℕ → View)
    → ((view : View) (id : ℕ) → says (change view id) ≡ says view)
    → (o : Objects) (id : ℕ) → says (changed_at change o id).client ≡ says o.client
client-changed says change law o id = elim (cases_Bool (is_of_server id)) [
  | inl h ↦ ap (λ (x : Objects). says x.client) (changed_server change o id h)
  | inr h ↦ ap (λ (x : Objects). says x.client) (changed_client change o id h) ∙ law o.client id
]

-- an opening never lowers the births
pub births-rise : (o : Objects) (id : ℕ) (iface : Iface) (version : ℕ)
    → o.client.births ≤ (opened_at o id iface version).client.births
births-rise o id iface version =
    let change = λ (view : View) (place : ℕ). table.opened_at view place iface version in
    elim (cases_Bool (is_of_server id)) [
      | inl h ↦ (let same = ap (λ (x : Objects). x.client.births) (changed_server change o id h) in
          omega (arith, same))
      | inr h ↦ (let more = ap (λ (x : Objects). x.client.births) (changed_client change o id h) in
          omega (arith, more))
    ]

pub births-closed : (o : Objects) (id : ℕ) → (closed o id).client.births ≡ o.client.births
births-closed o id = client-changed (λ view. view.births) table.closed (λ view place. refl) o id

pub used-closed : (o : Objects) (id : ℕ) → (closed o id).client.used ≡ o.client.used
used-closed o id = client-changed (λ view. view.used) table.closed (λ view place. refl) o id

pub births-zombied : (o : Objects) (id : ℕ) → (zombied o id).client.births ≡ o.client.births
births-zombied o id = client-changed (λ view. view.births) table.zombied (λ view place. refl) o id

pub used-zombied : (o : Objects) (id : ℕ) → (zombied o id).client.used ≡ o.client.used
used-zombied o id = client-changed (λ view. view.used) table.zombied (λ view place. refl) o id

-- Where a row after a change comes from.

-- after an opening: it is the new object's, or it was there before, at another id
pub row-opened_at : (o : Objects) (id : ℕ) (iface : Iface) (version q : ℕ) (e : Entry)
    → look (opened_at o id iface version) q ≡ Some e
    → ((q ≡ id)
    × (e ≡ record { birth = births o id; iface = iface; version = version; state = Live }))
    ⊎ ((q ≢ id) × (look o q ≡ Some e))
row-opened_at o id iface version q e h = ⊎_elim
    (λ p. inl (rows.eqb_is q id p.0, sym (rows.some_is _ e p.1)))
    (λ p. inr (rows.eqb_not q id p.0, p.1))
    (rows.cases_row (eqb q id) (Some (new_row (births o id) iface version)) (look o q) e
    (sym (look-opened_at o id iface version q) ∙ h))

pub row-opened_by_client : (o : Objects) (id : ℕ) (iface : Iface) (version q : ℕ) (e : Entry)
    → is_of_server id ≡ false → look (opened_at o id iface version) q ≡ Some e
    → ((q ≡ id)
    × (e ≡ record { birth = o.client.births; iface = iface; version = version; state = Live }))
    ⊎ ((q ≢ id) × (look o q ≡ Some e))
row-opened_by_client o id iface version q e range h = ⊎_elim
    (λ p. inl (p.0, p.1 ∙ ap (λ n. new_row n iface version) (births_of_client o id range)))
    (λ p. inr p)
    (row-opened_at o id iface version q e h)

-- after a closing: it was there before, at another id
pub row-closed : (o : Objects) (id q : ℕ) (e : Entry) → look (closed o id) q ≡ Some e
    → (q ≢ id) × (look o q ≡ Some e)
row-closed o id q e h = ⊎_elim
    (λ p. let no = p.1 in cc)
    (λ p. (rows.eqb_not q id p.0, p.1))
    (rows.cases_row (eqb q id) None (look o q) e (sym (look-closed o id q) ∙ h))

-- after a zombie-making: it was there before, and it is now a zombie's if its id is this one
pub row-zombied : (o : Objects) (id q : ℕ) (e : Entry) → look (zombied o id) q ≡ Some e
    → (d : Entry) × ((look o q ≡ Some d) × (e ≡ cond (eqb q id) (zombie d) d))
row-zombied o id q e h =
    rows.of_zombie (eqb q id) (look o q) e (sym (look-zombied o id q) ∙ h)
