-- The objects that are held, the globals that were advertised, and how what was overwritten is
-- restored.
use Rattle.std.specs.Prelude.{◌≡◌, ℕ, ◌+◌, ◌-◌, ◌≤◌, max, List, [], ◌∷◌, length, get_or, set}
use Rattle.std.specs.Prelude.{take, if◌then◌else◌, Option, Some, None}
use Rattle.std.specs.BTreeMap.{is_at}
use Rattle.std.specs.Map.{lookup, remove_entry, set_value}
use Rattle.std.specs.Option.{unwrap_or}
use Rattle.std.specs.declared.cmp.Ordering.{Ordering}
use Rattle.std.specs.Ordering.{nat_cmp, ordering_then}
use Rattle.wl_object_map.specs.declared.object.Entry.{Entry}
use Rattle.wl_object_map.specs.Ranges.{first_server_id, is_of_server}
use Rattle.wl_check.specs.declared.overwritten.Overwritten.{Overwritten}
use Rattle.wl_check.specs.declared.overwritten.Overwritten.TheVariants.{Object, Global}
use Rattle.wl_check.specs.declared.overwritten.UndoList.{UndoList}
use Rattle.wl_check.specs.declared.overwritten.UndoList.TheVariants.{Off, On}

-- the object at each id of the client's range, and of the server's from its first on; and the
-- greatest advertised version for each name and interface
pub record Held : Type 0 where
  pub objects : List (Option Entry)
  pub server_objects : List (Option Entry)
  pub globals : List ((ℕ × ℕ) × ℕ)

-- the object held with an id
abbrev pub held_object : Held → ℕ → Option Entry
held_object held id =
    if is_of_server id then get_or held.server_objects (id - first_server_id) None
    else get_or held.objects id None

-- how many slots the range of an id has
abbrev pub slots_in : Held → ℕ → ℕ
slots_in held id = if is_of_server id then length held.server_objects else length held.objects

-- No more slots are kept than there were ids: in the client's range slot 0 and one for each id up
-- to the greatest used, in the server's range one for each id used.
pub record HasFewSlots (held : Held) (used server_used : ℕ) : Type 0 where
  pub objects : length held.objects ≤ used + 1
  pub server_objects : length held.server_objects ≤ server_used

-- the range of an id has slots up to the id, or as many as before; the other range as many as
-- before
pub record AreReached (id : ℕ) (before after : Held) : Type 0 where
  pub objects : length after.objects
      ≡ (if is_of_server id then length before.objects else max (length before.objects) (id + 1))
  pub server_objects : length after.server_objects ≡ (if is_of_server id
      then max (length before.server_objects) (id - first_server_id + 1)
      else length before.server_objects)

-- both ranges have as many slots as before
pub record HasSlotsOf (before after : Held) : Type 0 where
  pub objects : length after.objects ≡ length before.objects
  pub server_objects : length after.server_objects ≡ length before.server_objects

-- the order of names and interfaces
abbrev pub pair_cmp : ℕ × ℕ → ℕ × ℕ → Ordering
pair_cmp a b = ordering_then (nat_cmp a.0 b.0) (nat_cmp a.1 b.1)

-- the greatest version advertised for a name and an interface; 0 if none
abbrev pub held_version : Held → ℕ × ℕ → ℕ
held_version held key = unwrap_or (lookup (is_at (pair_cmp key)) held.globals) 0

-- what was overwritten is restored: an object, and the number of slots of its range; a version, or
-- that there was none
abbrev pub put_back : Overwritten → Held → Held
put_back (Object id entry slots) held =
    if is_of_server id then record held {
      server_objects = take slots (set held.server_objects (id - first_server_id) entry);
    } else record held { objects = take slots (set held.objects id entry) }
put_back (Global key None) held =
    record held { globals = remove_entry (is_at (pair_cmp key)) held.globals }
put_back (Global key (Some version)) held =
    record held { globals = set_value (is_at (pair_cmp key)) held.globals version }

-- all that was overwritten is restored, the last first
abbrev pub undone : List Overwritten → Held → Held
undone [] held = held
undone (one ∷ later) held = put_back one (undone later held)

-- the same with a list that may be off
abbrev pub undone_by : {A : Type 0} → UndoList A → Held → Option Held
undone_by Off held = None
undone_by (On list) held = Some (undone list.items held)
