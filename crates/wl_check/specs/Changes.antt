-- How a message changes what is known about a session.
use Rattle.std.specs.Prelude.{ℕ, Bool, true, false, ◌&&◌, List, [], ◌∷◌, nat_eq, if◌then◌else◌}
use Rattle.std.specs.Prelude.{Option, Some, None, option_map}
use Rattle.wl_wire.specs.declared.kind.Iface.{Iface}
use Rattle.wl_wire.specs.Argument.{Argument, Uint, Str}
use Rattle.wl_sigs.specs.Side.{Side}
use Rattle.wl_sigs.specs.Side.TheVariants.{Request, Event}
use Rattle.wl_sigs.specs.Tables.{Interface, place_of, destroys_one, descriptors}
use Rattle.wl_sigs.specs.Fixed.{display, registry}
use Rattle.wl_objects.specs.Messages.{Received, made, is_error, is_delete_id, same_iface}
use Rattle.wl_objects.specs.Messages.{ended_id}
use Rattle.wl_recording.specs.declared.piece.Direction.{Direction}
use Rattle.wl_recording.specs.declared.piece.Direction.TheVariants.{ToServer, ToClient}
use Rattle.wl_check.specs.declared.changes.AdvertisedGlobal.{AdvertisedGlobal}
use Rattle.wl_check.specs.declared.changes.MessageChanges.{MessageChanges}

-- requests go to the server, events to the client
abbrev pub side_of : Direction → Side
side_of ToServer = Request
side_of ToClient = Event

-- a message that was read: its direction, its opcode, and its meaning to its reader
pub record Call : Type 0 where
  pub direction : Direction
  pub opcode : ℕ
  pub received : Received

-- wl_registry.global
abbrev pub is_global : Side → Iface → ℕ → Bool
is_global Request iface opcode = false
is_global Event iface opcode = same_iface iface registry && nat_eq opcode 0

-- the first argument, if it is a number
abbrev pub first_number : List Argument → Option ℕ
first_number (Uint number ∷ more) = Some number
first_number _ = None

-- the global that a global event advertises, if its interface is in the tables
abbrev pub advertised : List Interface → List Argument → Option AdvertisedGlobal
advertised tables (Uint name ∷ Str (Some iface) ∷ Uint version ∷ []) =
    option_map (λ place. record { name = name; iface = place; version = version })
    (place_of tables iface)
advertised tables _ = None

abbrev pub destroyed_id : Bool → ℕ → Option ℕ
destroyed_id false id = None
destroyed_id true id = Some id

-- The changes by a message: the object that it makes, the id that it frees as a delete_id, the
-- object that it destroys, the global that it advertises, how many tokens it takes, and whether it
-- is wl_display.error, which ends the session.
abbrev pub changes : List Interface → Call → MessageChanges
changes tables call = let r = call.received in record {
  direction = call.direction;
  made = made tables r.entry.version r.signature.kinds r.values;
  deleted = if is_delete_id (side_of call.direction) r.entry.iface call.opcode
      then first_number r.values else None;
  destroyed = destroyed_id (destroys_one r.signature.destroys)
      (ended_id r.signature.destroys r.target.id r.values);
  advertised = if is_global (side_of call.direction) r.entry.iface call.opcode
      then advertised tables r.values else None;
  tokens = descriptors r.signature.kinds;
  is_error = is_error (side_of call.direction) r.entry.iface call.opcode;
}

-- no changes
abbrev pub changes_nothing : MessageChanges
changes_nothing = record {
  direction = ToServer;
  made = None;
  deleted = None;
  destroyed = None;
  advertised = None;
  tokens = 0;
  is_error = false;
}

-- the start: wl_display exists, with id 1 and version 1
abbrev pub beginning : MessageChanges
beginning = record changes_nothing { made = Some (record { id = 1; iface = display; version = 1 }) }
