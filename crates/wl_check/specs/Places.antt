-- What is known at a place of a session, from the places before it. wl_display is at place 0, and
-- the messages of the merged list are at 1, 2, ..; an object is identified by its birth, the place
-- of the message that made it.
use Rattle.std.specs.Prelude.{◌≡◌, ℕ, zero, suc, ◌+◌, ◌-◌, max, Bool, true, false, not, ◌&&◌}
use Rattle.std.specs.Prelude.{◌||◌, nat_lt, nat_eq, if◌then◌else◌, Option, Some, None, option_map}
use Rattle.wl_object_map.specs.declared.object.Entry.{Entry}
use Rattle.wl_object_map.specs.declared.object.State.{State}
use Rattle.wl_object_map.specs.declared.object.State.TheVariants.{Live, Zombie}
use Rattle.wl_object_map.specs.Ranges.{first_server_id, is_of_server}
use Rattle.wl_objects.specs.Messages.{NewObject}
use Rattle.wl_sigs.specs.Fixed.{display}
use Rattle.wl_recording.specs.declared.piece.Direction.{Direction}
use Rattle.wl_check.specs.declared.changes.AdvertisedGlobal.{AdvertisedGlobal}
use Rattle.wl_check.specs.declared.changes.MessageChanges.{MessageChanges}
use Rattle.wl_check.specs.Merged.{same_direction}

abbrev pub is_id : Option ℕ → ℕ → Bool
is_id None id = false
is_id (Some other) id = nat_eq other id

-- the delete_id of 1 changes nothing; neither does that of an id of the server's range
abbrev pub frees_id : Option ℕ → ℕ → Bool
frees_id deleted id = not (nat_eq id 1) && not (is_of_server id) && is_id deleted id

abbrev pub is_made : Option NewObject → ℕ → Bool
is_made None id = false
is_made (Some new) id = nat_eq new.id id

-- the message makes an object with this id
abbrev pub makes_id : MessageChanges → ℕ → Bool
makes_id changes id = is_made changes.made id

-- the message is the delete_id of this id, and one that changes something
abbrev pub deletes_id : MessageChanges → ℕ → Bool
deletes_id changes id = frees_id changes.deleted id

-- the message destroys the object with this id
abbrev pub destroys_id : MessageChanges → ℕ → Bool
destroys_id changes id = is_id changes.destroyed id

-- The object held at a place with this id: the last one made, unless a delete_id that frees the id
-- comes in between.
unfoldable pub holder : (ℕ → MessageChanges) → ℕ → ℕ → Option ℕ
holder session zero id = None
holder session (suc place) id =
    if makes_id (session place) id then Some place
    else (if deletes_id (session place) id then None else holder session place id)

-- whether a message that destroys the object with this id comes after the place where it was made,
-- and before another place
unfoldable pub is_ending : (ℕ → MessageChanges) → ℕ → ℕ → ℕ → Bool
is_ending session birth zero id = false
is_ending session birth (suc place) id =
    (nat_lt birth place && destroys_id (session place) id) || is_ending session birth place id

abbrev pub live_or_zombie : Bool → State
live_or_zombie true = Zombie
live_or_zombie false = Live

abbrev pub made_entry : ℕ → State → NewObject → Entry
made_entry birth state new =
    record { birth = birth; iface = new.iface; version = new.version; state = state }

abbrev pub new_or_null : Option NewObject → NewObject
new_or_null None = record { id = 0; iface = display; version = 0 }
new_or_null (Some new) = new

-- the object made at a place
abbrev pub entry_made_at : (ℕ → MessageChanges) → ℕ → State → Entry
entry_made_at session birth state = made_entry birth state (new_or_null (session birth).made)

-- the object that an id names at a place: one that is held, open or ending
abbrev pub object_named : (ℕ → MessageChanges) → ℕ → ℕ → Option Entry
object_named session place id =
    option_map (λ birth. entry_made_at session birth
    (live_or_zombie (is_ending session birth place id)))
    (holder session place id)

-- the counts after a message: the greatest id used in the client's range, and how many ids were
-- used in the server's
abbrev pub used_by : Option NewObject → ℕ → ℕ
used_by None count = count
used_by (Some new) count = if is_of_server new.id then count else max new.id count

abbrev pub server_used_by : Option NewObject → ℕ → ℕ
server_used_by None count = count
server_used_by (Some new) count =
    if is_of_server new.id then max (new.id - first_server_id + 1) count else count

abbrev pub used_after : MessageChanges → ℕ → ℕ
used_after changes count = used_by changes.made count

abbrev pub server_used_after : MessageChanges → ℕ → ℕ
server_used_after changes count = server_used_by changes.made count

abbrev pub advertises : ℕ → ℕ → AdvertisedGlobal → Bool
advertises name iface global = nat_eq global.name name && nat_eq global.iface.0 iface

abbrev pub advertised_once : AdvertisedGlobal → ℕ → ℕ → ℕ → ℕ
advertised_once global name iface version =
    if advertises name iface global then max global.version version else version

abbrev pub advertised_by : Option AdvertisedGlobal → ℕ → ℕ → ℕ → ℕ
advertised_by None name iface version = version
advertised_by (Some global) name iface version = advertised_once global name iface version

abbrev pub advertised_after : MessageChanges → ℕ → ℕ → ℕ → ℕ
advertised_after changes name iface version = advertised_by changes.advertised name iface version

abbrev pub taken_after : MessageChanges → Direction → ℕ → ℕ
taken_after changes direction count =
    count + (if same_direction changes.direction direction then changes.tokens else 0)

-- the greatest id of the client's range used before a place
unfoldable pub used : (ℕ → MessageChanges) → ℕ → ℕ
used session zero = 0
used session (suc place) = used_after (session place) (used session place)

-- how many ids of the server's range were used before a place; these are the first ones
unfoldable pub server_used : (ℕ → MessageChanges) → ℕ → ℕ
server_used session zero = 0
server_used session (suc place) =
    server_used_after (session place) (server_used session place)

-- the greatest version that an event before a place advertised for this name and this interface; 0
-- if none did
unfoldable pub advertised_version : (ℕ → MessageChanges) → ℕ → ℕ → ℕ → ℕ
advertised_version session zero name iface = 0
advertised_version session (suc place) name iface =
    advertised_after (session place) name iface (advertised_version session place name iface)

-- how many tokens the messages of a direction took before a place
unfoldable pub taken : (ℕ → MessageChanges) → ℕ → Direction → ℕ
taken session zero direction = 0
taken session (suc place) direction =
    taken_after (session place) direction (taken session place direction)

-- what is known at a place
pub record KnownAtPlace : Type 0 where
  pub object : ℕ → Option Entry
  pub used : ℕ
  pub server_used : ℕ
  pub advertised_version : ℕ → ℕ → ℕ
  pub taken : Direction → ℕ

abbrev pub known : (ℕ → MessageChanges) → ℕ → KnownAtPlace
known session place = record {
  object = object_named session place;
  used = used session place;
  server_used = server_used session place;
  advertised_version = advertised_version session place;
  taken = taken session place;
}

-- ---- one more message

abbrev pub as_zombie : Entry → Entry
as_zombie entry = record entry { state = Zombie }

abbrev pub unless_deleted : Bool → Bool → Option Entry → Option Entry
unless_deleted deleted destroyed entry =
    if deleted then None else (if destroyed then option_map as_zombie entry else entry)

-- what an id names after a message at a place
abbrev pub object_after : ℕ → MessageChanges → ℕ → Option Entry → Option Entry
object_after place changes id entry =
    if makes_id changes id then Some (made_entry place Live (new_or_null changes.made))
    else unless_deleted (deletes_id changes id) (destroys_id changes id) entry

-- all that is known after a message at a place
pub record IsKnownBehind (p : ℕ) (changes : MessageChanges) (before after : KnownAtPlace) : Type 0
  where
    pub objects : (id : ℕ) → after.object id ≡ object_after p changes id (before.object id)
    pub used_is : after.used ≡ used_after changes before.used
    pub server_used_is : after.server_used ≡ server_used_after changes before.server_used
    pub advertised_is : (name iface : ℕ) → after.advertised_version name iface
        ≡ advertised_after changes name iface (before.advertised_version name iface)
    pub taken_is : (direction : Direction) → after.taken direction
        ≡ taken_after changes direction (before.taken direction)

-- all that is known before the first message
pub record IsFirst (k : KnownAtPlace) : Type 0 where
  pub objects : (id : ℕ) → k.object id ≡ (if nat_eq id 1
      then Some (record { birth = 0; iface = display; version = 1; state = Live }) else None)
  pub used_is : k.used ≡ 1
  pub server_used_is : k.server_used ≡ 0
  pub advertised_is : (name iface : ℕ) → k.advertised_version name iface ≡ 0
  pub taken_is : (direction : Direction) → k.taken direction ≡ 0
