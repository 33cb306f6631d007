-- What a vector of slots represents: rows by id, and the chain of freed ids.
use Rattle.std.specs.Prelude.{◌≡◌, ℕ, zero, suc, ◌+◌, ◌<◌, ◌≤◌, cond, eqb, List, [], ◌∷◌, length}
use Rattle.std.specs.Prelude.{Option, Some, None, slice_get}
use Rattle.std.specs.Ordering.{nat_cmp}
use Rattle.std.specs.FinMap.{FinMap, insert, empty}
use Rattle.wl_wire.specs.declared.kind.Iface.{Iface}
use Rattle.wl_object_map.specs.declared.object.Entry.{Entry}
use Rattle.wl_object_map.specs.declared.object.State.TheVariants.{Live}
use Rattle.wl_object_map.specs.declared.slot_table.Slot.{Slot}
use Rattle.wl_object_map.specs.declared.slot_table.Slot.TheVariants.{Row, Free}
use Rattle.wl_object_map.specs.View.{View, Sound, times, without, first_or}

-- the slot that holds a row
abbrev pub slot_of_entry : Entry → Slot
slot_of_entry e = Row e.birth e.version e.iface e.state

-- the row of a new object
abbrev pub new_row : ℕ → Iface → ℕ → Entry
new_row birth iface version = record {
  birth = birth;
  iface = iface;
  version = version;
  state = Live;
}

-- the slot of an id: the first slot for id 1, none for id 0
abbrev pub slot_at : List Slot → ℕ → Option Slot
slot_at slots zero = None
slot_at slots (suc n) = slice_get slots n

abbrev pub row_in : Option Slot → Option Entry
row_in None = None
row_in (Some (Row birth version iface state)) =
    Some (record { birth = birth; iface = iface; version = version; state = state })
row_in (Some (Free newer older)) = None

-- the row of an id, if it has one
abbrev pub row_at : List Slot → ℕ → Option Entry
row_at slots id = row_in (slot_at slots id)

-- the rows of slots, the first of which is for the given id
abbrev pub rows_from : ℕ → List Slot → FinMap nat_cmp Entry
rows_from id [] = empty
rows_from id (Row birth version iface state ∷ slots) =
    insert (rows_from (id + 1) slots) id
    (record { birth = birth; iface = iface; version = version; state = state })
rows_from id (Free newer older ∷ slots) = rows_from (id + 1) slots

-- The chain.

-- the element after an id in a list, 0 if there is none; among freed ids (latest first), the one
-- freed before it
abbrev pub older_of : ℕ → List ℕ → ℕ
older_of id [] = 0
older_of id (x ∷ xs) = cond (eqb x id) (first_or 0 xs) (older_of id xs)

-- the element before an id in a list that follows `head`
abbrev pub newer_of : ℕ → ℕ → List ℕ → ℕ
newer_of head id [] = 0
newer_of head id (x ∷ xs) = cond (eqb x id) head (newer_of x id xs)

-- the last element of a list, or the given one if it is empty
abbrev pub last_or : ℕ → List ℕ → ℕ
last_or before [] = before
last_or before (x ∷ xs) = last_or x xs

-- The slots contain a chain that begins at `first` and lists the ids in order: the slot of each id
-- holds both neighbours, 0 if it has none. (The law is `neighbours` in proofs/Chain.antt: if the
-- ids are `front ++ id ∷ rest`, the neighbours are the last of `front` and the first of `rest`.)
pub record IsChain (slots : List Slot) (first : ℕ) (ids : List ℕ) : Type 0 where
  pub begins : first ≡ first_or 0 ids
  pub once : (id : ℕ) → times id ids ≤ 1
  pub linked : (id : ℕ) → 0 < times id ids
      → slot_at slots id ≡ Some (Free (newer_of 0 id ids) (older_of id ids))

-- a free slot with its neighbour on one side replaced; any other slot stays
abbrev pub with_older : ℕ → Option Slot → Option Slot
with_older older None = None
with_older older (Some (Row birth version iface state)) = Some (Row birth version iface state)
with_older older (Some (Free n o)) = Some (Free n older)

abbrev pub with_newer : ℕ → Option Slot → Option Slot
with_newer newer None = None
with_newer newer (Some (Row birth version iface state)) = Some (Row birth version iface state)
with_newer newer (Some (Free n o)) = Some (Free newer o)

-- What the steps of a call do to the slots: relations between the slots before and after.

-- a slot was put at an id, and the others stay
abbrev pub IsPut : ℕ → Slot → List Slot → List Slot → Type 0
IsPut id slot old new = (q : ℕ) → slot_at new q ≡ cond (eqb q id) (Some slot) (slot_at old q)

-- the neighbour of a freed id on one side was replaced
abbrev pub IsOlderSet : ℕ → ℕ → List Slot → List Slot → Type 0
IsOlderSet id older old new =
    (q : ℕ) → slot_at new q ≡ cond (eqb q id) (with_older older (slot_at old q)) (slot_at old q)

abbrev pub IsNewerSet : ℕ → ℕ → List Slot → List Slot → Type 0
IsNewerSet id newer old new =
    (q : ℕ) → slot_at new q ≡ cond (eqb q id) (with_newer newer (slot_at old q)) (slot_at old q)

-- any chain from `first` that contained the id continues without it, and begins at `after`
abbrev pub IsTakenOut : ℕ → List Slot → ℕ → List Slot → ℕ → Type 0
IsTakenOut id old first new after =
    (ids : List ℕ) → IsChain old first ids → 0 < times id ids → IsChain new after (without id ids)

-- any chain from `first` without the id now has the id in front
abbrev pub IsPutFirst : ℕ → List Slot → ℕ → List Slot → ℕ → Type 0
IsPutFirst id old first new after =
    (ids : List ℕ) → IsChain old first ids → times id ids ≡ 0 → IsChain new after (id ∷ ids)

-- every id kept its row
abbrev pub HasSameRows : List Slot → List Slot → Type 0
HasSameRows old new = (q : ℕ) → row_at new q ≡ row_at old q

-- an id has no row, and every other id kept its row
abbrev pub HasNoRowAt : ℕ → List Slot → List Slot → Type 0
HasNoRowAt id old new = (q : ℕ) → row_at new q ≡ cond (eqb q id) None (row_at old q)

-- the next id in the chain after a slot
abbrev pub next_in : Option Slot → ℕ
next_in None = 0
next_in (Some (Row birth version iface state)) = 0
next_in (Some (Free newer older)) = older

-- the first n ids of the chain that begins at an id
abbrev pub followed : ℕ → List Slot → ℕ → List ℕ
followed zero slots id = []
followed (suc n) slots id = id ∷ followed n slots (next_in (slot_at slots id))

-- The table that slots represent.
abbrev pub view_of : List Slot → ℕ → ℕ → ℕ → View
view_of slots first free births = record {
  rows = rows_from 1 slots;
  freed = followed free slots first;
  used = length slots;
  births = births;
}

-- what always holds: the view is sound, and the chain lists all its freed ids
pub record IsSoundChain (slots : List Slot) (first free births : ℕ) : Type 0 where
  pub sound : Sound (view_of slots first free births)
  pub chain : IsChain slots first (followed free slots first)
