-- An end's two tables together: which table has a row, and how changes affect the counts.
use Rattle.std.proofs.Common.{◌≡◌, ℕ, ◌+◌, ◌<◌, ◌≤◌, Bool, true, false, cond, max, inl, inr}
use Rattle.std.proofs.Common.{refl, sym, ap, ◌∙◌, arith, is_some}
use Rattle.std.proofs.lemmas.Bool.{cases_Bool}
use Rattle.std.proofs.lemmas.Bool.Decides.{nat_tests}
use Rattle.std.specs.declared.option.Option.{Option}
use Rattle.std.specs.declared.option.Option.TheVariants.{None, Some}
use Rattle.wl_wire.specs.declared.kind.Iface.{Iface}
use Rattle.wl_object_map.specs.declared.object.Entry.{Entry}
use Rattle.wl_object_map.specs.Ranges.{is_of_server, table_id, wire_id, max_server_id}
use Rattle.wl_object_map.specs.View as table
use Rattle.wl_object_map.specs.View.{View, max_ids, max_births}
use Rattle.wl_object_map.specs.Views.{place_of_id, in_row, in_list, at_null, unused, unheld_is_free}
use Rattle.wl_object_map.specs.Objects.{Objects, ObjectsAreSound, look, has_room, opened_at}
use Rattle.wl_object_map.specs.Objects.{closed, zombied, births}
use Rattle.wl_object_map.specs.ObjectsLaws.{is_from, in_range-client, in_range-server, changed_server}
use Rattle.wl_object_map.specs.ObjectsLaws.{changed_client, ObjectsAreSound-opened_at, ObjectsAreSound-reopened}
use Rattle.theory_connection.specs.Flight.{Counts, most, one_counted, counts_of}

-- ---- where a row is

-- a row of the client's range is in the client's table
pub row_of_client : (v : Objects) (id : ℕ) (e : Entry) → is_of_server id ≡ false → look v id ≡ Some e
    → table.look v.client id ≡ Some e
row_of_client v id e range row = sym (in_range-client table.look v id range) ∙ row

-- a row of the server's range is in the server's table
pub row_of_server : (v : Objects) (id : ℕ) (e : Entry) → is_of_server id ≡ true → look v id ≡ Some e
    → table.look v.server (table_id id) ≡ Some e
row_of_server v id e range row = sym (in_range-server table.look v id range) ∙ row

-- an id with a row in the client's range is from 1 to the last id
pub row_low : (v : Objects) (id : ℕ) (e : Entry) → ObjectsAreSound v → is_of_server id ≡ false → look v id ≡ Some e
    → (0 < id) × (id ≤ max_ids)
row_low v id e s range row =
    let there = row_of_client v id e range row in
    let top = s.client.ids_end in
    elim (place_of_id v.client s.client id) [
      | in_row d l t a b ↦ (a, omega (arith, b, top))
      | in_list l t a b ↦ absurd (cc (l, there))
      | at_null l t z ↦ absurd (cc (l, there))
      | unused l t a ↦ absurd (cc (l, there))
    ]

-- an id with a row fits in a word, and is not null
pub row_word : (v : Objects) (id : ℕ) (e : Entry) → ObjectsAreSound v → look v id ≡ Some e
    → (0 < id) × (id < 4294967296)
row_word v id e s row = elim (cases_Bool (is_of_server id)) [
  | inl h ↦
      (let there = row_of_server v id e h row in
      let top = s.server.ids_end in
      let from = is_from id h in
      elim (place_of_id v.server s.server (table_id id)) [
        | in_row d l t a b ↦ (omega (arith, from), omega (arith, b, top))
        | in_list l t a b ↦ absurd (cc (l, there))
        | at_null l t z ↦ absurd (cc (l, there))
        | unused l t a ↦ absurd (cc (l, there))
      ])
  | inr h ↦ (let low = row_low v id e s h row in (low.0, let b = low.1 in omega (arith, b)))
]

-- ---- the counts of the server's range

server_changed : (change : View → ℕ → View) → ((view : View) (id : ℕ) → (change view id).used ≡ view.used)
    → ((view : View) (id : ℕ) → (change view id).births ≡ view.births) → (b : Bool) (view : View) (id : ℕ)
    → ◌≡◌ {A = Counts}
    (record { next = wire_id ((cond b (change view id) view).used + 1); births = (cond b (change view id) view).births })
    (record { next = wire_id (view.used + 1); births = view.births })
server_changed change used births true view id = λ i. record { next = wire_id (used view id i + 1); births = births view id i }
server_changed change used births false view id = refl

-- closing an object does not change them
pub counts_closed : (v : Objects) (id : ℕ) → counts_of (closed v id) ≡ counts_of v
counts_closed v id =
    server_changed table.closed (λ view place. refl) (λ view place. refl) (is_of_server id) v.server (table_id id)

-- making an object a zombie does not change them
pub counts_zombied : (v : Objects) (id : ℕ) → counts_of (zombied v id) ≡ counts_of v
counts_zombied v id =
    server_changed table.zombied (λ view place. refl) (λ view place. refl) (is_of_server id) v.server (table_id id)

-- opening an object in the client's range does not change them
pub counts_by_client : (v : Objects) (id : ℕ) (iface : Iface) (version : ℕ) → is_of_server id ≡ false
    → counts_of (opened_at v id iface version) ≡ counts_of v
counts_by_client v id iface version h =
    ap counts_of (changed_client (λ view place. table.opened_at view place iface version) v id h)

next_is : (used id : ℕ) → 4278190080 ≤ id → wire_id (max used (table_id id) + 1) ≡ most (wire_id (used + 1)) (id + 1)
next_is used id l = grind (arith, nat_tests, l)

-- opening an object in the server's range is counted
pub counts_by_server : (v : Objects) (id : ℕ) (iface : Iface) (version : ℕ) → is_of_server id ≡ true
    → counts_of (opened_at v id iface version) ≡ one_counted (counts_of v) id
counts_by_server v id iface version h =
    ap counts_of (changed_server (λ view place. table.opened_at view place iface version) v id h)
    ∙ (let e = next_is v.server.used id (is_from id h) in λ i. record { next = e i; births = v.server.births + 1 })

-- ---- objects that the server makes, at the client

-- there is room for the server's next object
pub told_room : (v : Objects) (id : ℕ) → is_of_server id ≡ true → id ≤ max_server_id → v.server.births < max_births
    → has_room v id ≡ true
told_room v id range low left =
    in_range-server table.has_room v id range
    ∙ (let from = is_from id range in grind (arith, nat_tests, low, left, from))

-- Opening an object at an id of the server's range keeps both tables sound, if the id was used or
-- is the next.
pub told_sound : (v : Objects) (id : ℕ) (iface : Iface) (version : ℕ) → ObjectsAreSound v → is_of_server id ≡ true
    → id ≤ (counts_of v).next → id ≤ max_server_id → v.server.births < max_births
    → ObjectsAreSound (opened_at v id iface version)
told_sound v id iface version s range next low left = by_row (look v id) refl
  where
    room : has_room v id ≡ true
    room = told_room v id range low left

    by_row : (o : Option Entry) → look v id ≡ o → ObjectsAreSound (opened_at v id iface version)
    by_row (Some e) h = ObjectsAreSound-reopened v id iface version s (ap is_some h)
        (λ one. (let from = is_from id range in absurd (omega (arith, from, one)))) room
    by_row None h =
        let from = is_from id range in
        let none : table.look v.server (table_id id) ≡ None = sym (in_range-server table.look v id range) ∙ h in
        ObjectsAreSound-opened_at v id iface version s
        (in_range-server table.free_or_next v id range
        ∙ unheld_is_free v.server (table_id id) s.server none (omega (arith, from)) (omega (arith, from, next))) room
