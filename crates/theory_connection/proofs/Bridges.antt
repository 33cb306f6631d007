-- What the functions on views do to the rows.
use Rattle.std.proofs.Common.{◌≡◌, ℕ, ◌+◌, ◌≤◌, max, Bool, true, false, cond, eqb, inl, inr, refl, sym, ◌∙◌, ap, arith, eqb-true}
use Rattle.std.proofs.lemmas.Bool.Decides.{nat_tests}
use Rattle.std.proofs.lemmas.Bool.{cases_eq}
use Rattle.std.specs.Prelude.{option_map}
use Rattle.std.specs.declared.option.Option.{Option}
use Rattle.std.specs.declared.option.Option.TheVariants.{None, Some}
use Rattle.wl_object_map.specs.declared.object.Entry.{Entry}
use Rattle.wl_object_map.specs.View.{zombie, next_id}
use Rattle.wl_object_map.specs.Objects.{Objects, ObjectsAreSound, look, opened_at, closed, zombied}
use Rattle.wl_object_map.specs.View.{can_open, has_room, free_or_next, max_ids}
use Rattle.wl_object_map.specs.View as table
use Rattle.wl_object_map.specs.View.{View}
use Rattle.wl_object_map.specs.Ranges.{is_of_server}
use Rattle.wl_object_map.specs.declared.object.Maker.TheVariants.{Client, Server}
use Rattle.wl_object_map.specs.declared.object.State.TheVariants.{Live}
use Rattle.wl_wire.specs.declared.kind.Iface.{Iface}
use Rattle.wl_object_map.specs.Views.{unheld_is_free}
use Rattle.wl_object_map.specs.Objects.{maker_of}
use Rattle.wl_object_map.specs.ObjectsLaws.{free_is, in_range-client, in_range-server, opened_at-client}
use Rattle.wl_object_map.specs.ObjectsLaws.{changed_server, look-opened_at}
use Rattle.wl_object_map.specs.ObjectsLaws.{look-opened_by_client, look-closed, look-zombied}
use Rattle.wl_object_map.specs.ObjectsLaws.{births-closed, used-closed, births-zombied, used-zombied}
use Rattle.wl_object_map.specs.Views.{free_or_next-next_id}
use Rattle.theory_connection.specs.Meant.{Birth, client_birth, server_birth, Known, born_of_entry}
use Rattle.theory_connection.specs.World.{Open, Ending}
use Rattle.theory_connection.specs.Flight.{Rows, Counts, put_row, at, most, with_made, with_told, row_of_entry}
use Rattle.theory_connection.specs.Flight.{client_rows, server_rows, Fresh}
use Rattle.theory_connection.proofs.Flight.{fresh_range}
use Rattle.theory_connection.proofs.TwoRanges.{counts_by_client, counts_by_server, counts_closed, counts_zombied}

module _ {X Y : Type 0} (f : ℕ → X → Y) where
  -- mapping rows, by their ids, after one was put
  pub map_put : (g h : ℕ → Option X) (k : ℕ) (o : Option X) → ((q : ℕ) → g q ≡ cond (eqb q k) o (h q)) → (q : ℕ)
      → option_map (f q) (g q) ≡ put_row (λ i. option_map (f i) (h i)) k (option_map (f k) o) q
  unfolding put_row
  map_put g h k o e q = ap (option_map (f q)) (e q) ∙ by_test (eqb q k) refl
    where
      by_test : (b : Bool) → eqb q k ≡ b
          → option_map (f q) (cond b o (h q)) ≡ cond b (option_map (f k) o) (option_map (f q) (h q))
      by_test true t = ap (λ (i : ℕ). option_map (f i) o) (eqb-true q k t)
      by_test false t = refl

pub same_rows_at : {X : Type 0} {f g : ℕ → Option X} {u u' b b' : ℕ} {c c' : Counts} → ((q : ℕ) → f q ≡ g q)
    → u ≡ u' → b ≡ b' → c ≡ c'
    → ◌≡◌ {A = Rows X} (record { rows = f; used = u; births = b; by_server = c })
    (record { rows = g; used = u'; births = b'; by_server = c' })
same_rows_at e h c d = λ k. record { rows = λ q. e q k; used = h k; births = c k; by_server = d k }

most_max : (a b : ℕ) → max a b ≡ most a b
most_max a b = grind (arith, nat_tests)

-- the client's counts with one more open object
client_counts : (v : Objects) (x : Known) → is_of_server x.id ≡ false
    → ((opened_at v x.id x.born.iface x.born.version).client.used ≡ most v.client.used x.id)
    × ((opened_at v x.id x.born.iface x.born.version).client.births ≡ v.client.births + 1)
client_counts v x range =
    let opened = opened_at-client v x.id x.born.iface x.born.version range in (
      ap (λ (o : Objects). o.client.used) opened ∙ most_max v.client.used x.id,
      ap (λ (o : Objects). o.client.births) opened,
    )

-- the birth of a row of the client's range
pub by_client : (id number : ℕ) → is_of_server id ≡ false
    → ◌≡◌ {A = Birth} (record { maker = maker_of id; number = number }) (client_birth number)
by_client id number h = ap (λ (b : Bool). record { maker = cond b Server Client; number = number }) h

-- the birth of a row of the server's range
pub by_server : (id number : ℕ) → is_of_server id ≡ true
    → ◌≡◌ {A = Birth} (record { maker = maker_of id; number = number }) (server_birth number)
by_server id number h = ap (λ (b : Bool). record { maker = cond b Server Client; number = number }) h

-- the client's rows with one more open object of the client
pub client_opened : (v : Objects) (x : Known) → Fresh (client_rows v) x
    → client_rows (opened_at v x.id x.born.iface x.born.version) ≡ with_made (client_rows v) x.id (Open x.born)
client_opened v x f =
    let range = fresh_range f in
    let more = client_counts v x range in
    same_rows_at
    (λ q. map_put row_of_entry (look (opened_at v x.id x.born.iface x.born.version)) (look v) x.id _
    (λ p. look-opened_by_client v x.id x.born.iface x.born.version p range) q
    ∙ ap (λ (n : Birth). put_row (λ i. option_map (row_of_entry i) (look v i)) x.id
    (Some (Open (record { birth = n; iface = x.born.iface; version = x.born.version }))) q)
    (by_client x.id v.client.births range ∙ sym f.birth))
    more.0 more.1 (counts_by_client v x.id x.born.iface x.born.version range)

-- the server's rows with one more open object of the client
pub server_opened : (v : Objects) (x : Known) → Fresh (server_rows v) x
    → server_rows (opened_at v x.id x.born.iface x.born.version) ≡ with_made (server_rows v) x.id x.born
server_opened v x f =
    let range = fresh_range f in
    let more = client_counts v x range in
    same_rows_at
    (λ q. map_put born_of_entry (look (opened_at v x.id x.born.iface x.born.version)) (look v) x.id _
    (λ p. look-opened_by_client v x.id x.born.iface x.born.version p range) q
    ∙ ap (λ (n : Birth). put_row (λ i. option_map (born_of_entry i) (look v i)) x.id
    (Some (record { birth = n; iface = x.born.iface; version = x.born.version })) q)
    (by_client x.id v.client.births range ∙ sym f.birth))
    more.0 more.1 (counts_by_client v x.id x.born.iface x.born.version range)

told_look : (v : Objects) (id : ℕ) (iface : Iface) (version q : ℕ) → is_of_server id ≡ true
    → look (opened_at v id iface version) q
    ≡ cond (eqb q id) (Some (record { birth = v.server.births; iface = iface; version = version; state = Live })) (look v q)
told_look v id iface version q range =
    look-opened_at v id iface version q
    ∙ ap (λ (n : ℕ). cond (eqb q id) (Some (record { birth = n; iface = iface; version = version; state = Live })) (look v q))
    (in_range-server (λ view place. view.births) v id range)

-- an object of the server does not change the table of the client's range
pub told_client : (v : Objects) (x : Known) → is_of_server x.id ≡ true
    → (opened_at v x.id x.born.iface x.born.version).client ≡ v.client
told_client v x range = ap (λ (o : Objects). o.client)
    (changed_server (λ view place. table.opened_at view place x.born.iface x.born.version) v x.id range)

-- the client's rows with one more open object of the server, replacing what was at its id
pub client_told_rows : (v : Objects) (x : Known) → is_of_server x.id ≡ true
    → x.born.birth ≡ server_birth v.server.births
    → client_rows (opened_at v x.id x.born.iface x.born.version) ≡ with_told (client_rows v) x.id (Open x.born)
client_told_rows v x range birth =
    let same = told_client v x range in
    same_rows_at
    (λ q. map_put row_of_entry (look (opened_at v x.id x.born.iface x.born.version)) (look v) x.id _
    (λ p. told_look v x.id x.born.iface x.born.version p range) q
    ∙ ap (λ (n : Birth). put_row (λ i. option_map (row_of_entry i) (look v i)) x.id
    (Some (Open (record { birth = n; iface = x.born.iface; version = x.born.version }))) q)
    (by_server x.id v.server.births range ∙ sym birth))
    (ap (λ (t : View). t.used) same) (ap (λ (t : View). t.births) same)
    (counts_by_server v x.id x.born.iface x.born.version range)

-- the server's rows with one more open object of the server
pub server_told_rows : (v : Objects) (x : Known) → is_of_server x.id ≡ true
    → x.born.birth ≡ server_birth v.server.births
    → server_rows (opened_at v x.id x.born.iface x.born.version) ≡ with_told (server_rows v) x.id x.born
server_told_rows v x range birth =
    let same = told_client v x range in
    same_rows_at
    (λ q. map_put born_of_entry (look (opened_at v x.id x.born.iface x.born.version)) (look v) x.id _
    (λ p. told_look v x.id x.born.iface x.born.version p range) q
    ∙ ap (λ (n : Birth). put_row (λ i. option_map (born_of_entry i) (look v i)) x.id
    (Some (record { birth = n; iface = x.born.iface; version = x.born.version })) q)
    (by_server x.id v.server.births range ∙ sym birth))
    (ap (λ (t : View). t.used) same) (ap (λ (t : View). t.births) same)
    (counts_by_server v x.id x.born.iface x.born.version range)

-- the client's rows with an id closed
pub client_closed : (v : Objects) (id : ℕ) → client_rows (closed v id) ≡ at (client_rows v) id None
client_closed v id = same_rows_at (map_put row_of_entry (look (closed v id)) (look v) id None
    (look-closed v id)) (used-closed v id) (births-closed v id) (counts_closed v id)

-- the server's rows with an id closed
pub server_closed : (v : Objects) (id : ℕ) → server_rows (closed v id) ≡ at (server_rows v) id None
server_closed v id = same_rows_at (map_put born_of_entry (look (closed v id)) (look v) id None
    (look-closed v id)) (used-closed v id) (births-closed v id) (counts_closed v id)

zombie_at : (v : Objects) (id : ℕ) (e : Entry) → look v id ≡ Some e → (q : ℕ)
    → look (zombied v id) q ≡ cond (eqb q id) (Some (zombie e)) (look v q)
zombie_at v id e h q = look-zombied v id q ∙ elim (cases_eq q id) [
  | inl same ↦ (let l = ap (look v) same ∙ h in rw (l, same) refl)
  | inr other ↦ (let b : eqb q id ≡ false = grind (arith, nat_tests) in rw b refl)
]

-- the client's rows with an object ending
pub client_zombied : (v : Objects) (id : ℕ) (e : Entry) → look v id ≡ Some e
    → client_rows (zombied v id) ≡ at (client_rows v) id (Some (Ending (born_of_entry id e)))
client_zombied v id e h = same_rows_at (map_put row_of_entry (look (zombied v id)) (look v) id
    (Some (zombie e))
    (zombie_at v id e h)) (used-zombied v id) (births-zombied v id) (counts_zombied v id)

-- only nothing is mapped to nothing
pub map_none : {X Y : Type 0} (f : X → Y) (o : Option X) → option_map f o ≡ None → o ≡ None
map_none f None h = refl
map_none f (Some x) h = absurd (cc h)

-- a new object with the next id is fresh
pub next_fresh : (v : Objects) (x : Known) → ObjectsAreSound v → can_open v.client ≡ true
    → x.id ≡ next_id v.client → x.born.birth ≡ client_birth v.client.births
    → Fresh (client_rows v) x
next_fresh v x s o e b =
    let f = free_is v (next_id v.client) s (free_or_next-next_id v.client) in
    record {
      free = ap (λ (i : ℕ). option_map (row_of_entry i) (look v i)) e
          ∙ ap (option_map (row_of_entry (next_id v.client))) f.no_row;
      some = omega (arith, f.above_null, e);
      next = omega (arith, f.at_most_next, e);
      birth = b;
      low = let l : next_id v.client ≤ max_ids = grind (arith, nat_tests, o) in omega (arith, l, e);
      left = grind (arith, nat_tests, o);
    }

-- the id of a fresh object passes the server's test for free ids
pub fresh_free : (v : Objects) (x : Known) → ObjectsAreSound v → Fresh (server_rows v) x
    → free_or_next v.client x.id ≡ true
fresh_free v x s f =
    let none = map_none (born_of_entry x.id) (look v x.id) f.free in
    unheld_is_free v.client x.id s.client
    (sym (in_range-client table.look v x.id (fresh_range f)) ∙ none) f.some f.next

-- there is room for a fresh object
pub fresh_room : (v : Objects) (x : Known) → Fresh (server_rows v) x → has_room v.client x.id ≡ true
fresh_room v x f = let a = f.low in let b = f.left in grind (arith, nat_tests, a, b)
