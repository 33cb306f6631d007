-- Which delete_ids are deserved. The rules allow every delete_id; a client can rely only on those
-- that are deserved.
use Rattle.std.specs.Prelude.{◌≡◌, ◌⊎◌, ℕ, suc, ◌<◌, Bool, true, false, not, ◌||◌}
use Rattle.std.specs.Prelude.{if◌then◌else◌, List, Option, Some, None}
use Rattle.wl_sigs.specs.Rules.{is_ended_by_event}
use Rattle.wl_sigs.specs.Tables.{Interface, interface_at}
use Rattle.wl_object_map.specs.declared.object.Entry.{Entry}
use Rattle.wl_object_map.specs.declared.object.State.TheVariants.{Zombie}
use Rattle.wl_object_map.specs.View.{lives}
use Rattle.wl_check.specs.declared.changes.MessageChanges.{MessageChanges}
use Rattle.wl_check.specs.declared.deserved.UndeservedDelete.{UndeservedDelete}
use Rattle.wl_check.specs.Places.{KnownAtPlace, known}
use Rattle.wl_check.specs.Session.{Session, changes_at, messages}

-- A delete_id of this id is deserved, given what is known at its place: the id names an object that
-- is ending, or one whose interface has an event that ends its objects.
pub record Deserved (tables : List Interface) (k : KnownAtPlace) (id : ℕ) : Type 0 where
  pub entry : Entry
  pub named : k.object id ≡ Some entry
  pub given_up : (entry.state ≡ Zombie)
      ⊎ (is_ended_by_event (interface_at tables entry.iface.0) ≡ true)

-- the same as a test
abbrev pub is_given_up : List Interface → Option Entry → Bool
is_given_up tables None = false
is_given_up tables (Some entry) =
    not (lives entry.state) || is_ended_by_event (interface_at tables entry.iface.0)

abbrev pub unless_given_up : List Interface → KnownAtPlace → Option ℕ → Option ℕ
unless_given_up tables k None = None
unless_given_up tables k (Some id) = if is_given_up tables (k.object id) then None else Some id

-- the id that a message takes back, if it is a delete_id that is not deserved
abbrev pub undeserved_id : List Interface → KnownAtPlace → MessageChanges → Option ℕ
undeserved_id tables k changes = unless_given_up tables k changes.deleted

-- the same for the message at a place of a session; messages are numbered from 0
abbrev pub undeserved_at : List Interface → Session → ℕ → Option ℕ
undeserved_at tables session k =
    undeserved_id tables (known (changes_at tables (messages tables session)) (suc k))
    (changes_at tables (messages tables session) (suc k))

-- None of the first messages is a delete_id that is not deserved.
abbrev pub AllDeserved : List Interface → Session → ℕ → Type 0
AllDeserved tables session count = (k : ℕ) → k < count → undeserved_at tables session k ≡ None

-- This is the first delete_id that is not deserved among the first messages.
pub record IsFirstUndeserved (tables : List Interface) (session : Session) (count : ℕ)
    (delete : UndeservedDelete) : Type 0 where
  pub place : ℕ
  pub below : place < count
  -- counted from 1
  pub number_is : delete.number ≡ suc place
  pub takes_back : undeserved_at tables session place ≡ Some delete.id
  pub first : AllDeserved tables session place

-- the first delete_id that is not deserved among the first messages, or that there is none
abbrev pub TellsUndeserved : List Interface → Session → ℕ → Option UndeservedDelete → Type 0
TellsUndeserved tables session count None = AllDeserved tables session count
TellsUndeserved tables session count (Some delete) = IsFirstUndeserved tables session count delete

-- with one more message, which has this number
abbrev pub numbered : ℕ → Option ℕ → Option UndeservedDelete
numbered number None = None
numbered number (Some id) = Some (record { number = number; id = id })

abbrev pub first_with : Option UndeservedDelete → ℕ → Option ℕ → Option UndeservedDelete
first_with (Some delete) number found = Some delete
first_with None number found = numbered number found
