-- One end's table of objects, and how opening, closing and zombie-making change it.
use Rattle.std.specs.Prelude.{◌≡◌, ℕ, ◌+◌, ◌<◌, ◌≤◌, max, Bool, true, false, cond, ltb, leb, eqb}
use Rattle.std.specs.Prelude.{not, ◌&&◌, ◌||◌, List, [], ◌∷◌, length, refl, Option, Some, None}
use Rattle.std.specs.Prelude.{is_some}
use Rattle.std.specs.List.{filter}
use Rattle.std.specs.Ordering.{nat_cmp}
use Rattle.std.specs.FinMap.{FinMap, get, insert, remove, empty, code, len}
use Rattle.std.specs.Coded.{Coded, code_by, coded×, coded_ℕ, coded_list, coded_bool}
use Rattle.wl_wire.specs.declared.kind.Iface.{Iface}
use Rattle.wl_object_map.specs.declared.object.Entry.{Entry}
use Rattle.wl_object_map.specs.declared.object.State.{State}
use Rattle.wl_object_map.specs.declared.object.State.TheVariants.{Live, Zombie}

-- The rows by id; the freed ids, latest first; how many ids were ever used; how many objects were
-- born.
pub record View : Type 0 where
  pub rows : FinMap nat_cmp Entry
  pub freed : List ℕ
  pub used : ℕ
  pub births : ℕ

-- the most ids in a range, id 1 included
abbrev pub max_ids : ℕ
max_ids = 1048576

-- the greatest number of births
abbrev pub max_births : ℕ
max_births = 18446744073709551615

-- the row of an id, if it has one
abbrev pub look : View → ℕ → Option Entry
look view id = get view.rows id

-- whether an id has a row
abbrev pub is_held : View → ℕ → Bool
is_held view id = is_some (look view id)

abbrev pub lives : State → Bool
lives Live = true
lives Zombie = false

abbrev pub lives_in : Option Entry → Bool
lives_in None = false
lives_in (Some e) = lives e.state

-- whether an id has the row of a live object
abbrev pub is_live : View → ℕ → Bool
is_live view id = lives_in (look view id)

-- how often an id occurs in a list
abbrev pub times : ℕ → List ℕ → ℕ
times id [] = 0
times id (x ∷ xs) = cond (eqb x id) 1 0 + times id xs

-- in how many places an id occurs: 1 if it has a row, plus its occurrences among the freed ids
abbrev pub places : View → ℕ → ℕ
places view id = cond (is_held view id) 1 0 + times id view.freed

-- The ids used are the ids of births: each counted birth has one of them, each of them belongs to
-- such a birth, and a row's id is that of its birth.
pub record IdsOfBirths (view : View) : Type 0 where
  pub id_of : ℕ → ℕ
  pub used : (birth : ℕ) → birth < view.births → (0 < id_of birth) × (id_of birth ≤ view.used)
  pub given : (id : ℕ) → 0 < id → id ≤ view.used
      → (birth : ℕ) × ((birth < view.births) × (id_of birth ≡ id))
  pub rows : (id : ℕ) (e : Entry) → look view id ≡ Some e → id_of e.birth ≡ id

-- What always holds for a table.
pub record Sound (view : View) : Type 0 where
  -- every id from 1 to the number used has a row, or is freed once
  pub once : (id : ℕ) → 0 < id → id ≤ view.used → places view id ≡ 1
  -- no other id has a row or is freed
  pub no_other : places view 0 ≡ 0
  pub no_further : (id : ℕ) → view.used < id → places view id ≡ 0
  -- so rows and freed ids together number the ids used
  pub count : len view.rows + length view.freed ≡ view.used
  -- no two rows have the same birth, and each birth is below the number of births
  pub one_birth : (id other : ℕ) (e d : Entry) → look view id ≡ Some e → look view other ≡ Some d
      → e.birth ≡ d.birth → id ≡ other
  pub born : (id : ℕ) (e : Entry) → look view id ≡ Some e → e.birth < view.births
  -- the ids used are the ids of these births
  pub ids : IdsOfBirths view
  -- id 1 is always wl_display, the first object
  pub display : (iface : Iface)
      × (look view 1 ≡ Some (record { birth = 0; iface = iface; version = 1; state = Live }))
  -- the limits
  pub ids_end : view.used ≤ max_ids
  pub births_end : view.births ≤ max_births

-- a list without any occurrence of an id
abbrev pub without : ℕ → List ℕ → List ℕ
without id xs = filter (λ x. not (eqb x id)) xs

abbrev pub first_or : ℕ → List ℕ → ℕ
first_or next [] = next
first_or next (x ∷ xs) = x

-- the next id to be opened: the one freed last, or the next new one if none is free
abbrev pub next_id : View → ℕ
next_id view = first_or (view.used + 1) view.freed

-- whether an id is freed, or the next new one
abbrev pub free_or_next : View → ℕ → Bool
free_or_next view id = ltb 0 (times id view.freed) || eqb id (view.used + 1)

-- whether the limits leave room for an object at an id: the id is not above the last one, and
-- another birth can be counted
abbrev pub has_room : View → ℕ → Bool
has_room view id = leb id max_ids && ltb view.births max_births

-- whether the limits leave room for one more object
abbrev pub can_open : View → Bool
can_open view = has_room view (next_id view)

-- a new table: wl_display alone, with id 1, birth 0 and version 1
abbrev pub opening : Iface → View
opening display = record {
  rows = insert empty 1 (record { birth = 0; iface = display; version = 1; state = Live });
  freed = [];
  used = 1;
  births = 1;
}

-- an object was opened at an id, with the next birth
abbrev pub opened_at : View → ℕ → Iface → ℕ → View
opened_at view id iface version = record {
  rows =
      insert view.rows id
      (record { birth = view.births; iface = iface; version = version; state = Live });
  freed = without id view.freed;
  used = max view.used id;
  births = view.births + 1;
}

-- an object was opened at the next id
abbrev pub opened : View → Iface → ℕ → View
opened view iface version = opened_at view (next_id view) iface version

-- an object's row was removed and its id freed
abbrev pub closed : View → ℕ → View
closed view id = record {
  rows = remove view.rows id;
  freed = id ∷ view.freed;
  used = view.used;
  births = view.births;
}

-- the row of an object, as a zombie
abbrev pub zombie : Entry → Entry
zombie e = record e { state = Zombie }

abbrev pub with_zombie : FinMap nat_cmp Entry → ℕ → Option Entry → FinMap nat_cmp Entry
with_zombie rows id None = rows
with_zombie rows id (Some e) = insert rows id (zombie e)

-- an object became a zombie
abbrev pub zombied : View → ℕ → View
zombied view id = record view { rows = with_zombie view.rows id (look view id) }

-- A view as the value that a table represents.

abbrev pub bit_state : Bool → State
bit_state true = Live
bit_state false = Zombie

pub bit_state-lives : (s : State) → bit_state (lives s) ≡ s
bit_state-lives Live = refl
bit_state-lives Zombie = refl

pub entry_back : (e : Entry)
    → record {
      birth = e.birth;
      iface = record { 0 = e.iface.0 };
      version = e.version;
      state = bit_state (lives e.state);
    } ≡ e
entry_back e =
    λ i. record
    { birth = e.birth; iface = e.iface; version = e.version; state = bit_state-lives e.state i }

abbrev pub entry_code : Coded Entry
entry_code =
    code_by (ℕ × (ℕ × (ℕ × Bool))) (coded× coded_ℕ (coded× coded_ℕ (coded× coded_ℕ coded_bool)))
    (λ e. (e.birth, (e.iface.0, (e.version, lives e.state))))
    (λ p. record
    { birth = p.0; iface = record { 0 = p.1.0 }; version = p.1.1.0; state = bit_state p.1.1.1 })
    entry_back

abbrev pub view_code : Coded View
view_code =
    code_by (FinMap nat_cmp Entry × (List ℕ × (ℕ × ℕ)))
    (coded× (code coded_ℕ entry_code) (coded× (coded_list coded_ℕ) (coded× coded_ℕ coded_ℕ)))
    (λ v. (v.rows, (v.freed, (v.used, v.births))))
    (λ p. record { rows = p.0; freed = p.1.0; used = p.1.1.0; births = p.1.1.1 })
    (λ _. refl)
