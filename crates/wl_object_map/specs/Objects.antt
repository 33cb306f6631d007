-- The objects of one end, in both ranges of ids, and how opening, closing and zombie-making change
-- them. Each definition has the name of its counterpart for one table in `View`, and takes the id
-- on the wire.
use Rattle.std.specs.Prelude.{◌≡◌, ℕ, ◌-◌, Bool, false, cond, refl, Option, Some, None, is_some}
use Rattle.std.specs.FinMap.{len}
use Rattle.std.specs.Coded.{Coded, code_by, coded×, coded_bool}
use Rattle.wl_wire.specs.declared.kind.Iface.{Iface}
use Rattle.wl_object_map.specs.declared.object.Entry.{Entry}
use Rattle.wl_object_map.specs.declared.object.Maker.{Maker}
use Rattle.wl_object_map.specs.declared.object.Maker.TheVariants.{Client, Server}
use Rattle.wl_object_map.specs.Ranges.{is_of_server, table_id, wire_id}
use Rattle.wl_object_map.specs.View as table
use Rattle.wl_object_map.specs.View.{View}

-- The tables of the client's and the server's range, and whether the end keeps the second one. An
-- end that does not keep it opens no object in the server's range.
pub record Objects : Type 0 where
  pub client : View
  pub server : View
  pub has_server_range : Bool

-- who makes the objects at an id
abbrev pub maker_of : ℕ → Maker
maker_of id = cond (is_of_server id) Server Client

-- f of the table for an id's range, and of the id in that table
abbrev pub in_range : {X : Type 0} → (View → ℕ → X) → Objects → ℕ → X
in_range says objects id =
    cond (is_of_server id) (says objects.server (table_id id)) (says objects.client id)

-- the objects after a change to the table for an id's range, at the id in that table
abbrev pub changed_at : (View → ℕ → View) → Objects → ℕ → Objects
changed_at change objects id = record objects {
  client = cond (is_of_server id) objects.client (change objects.client id);
  server = cond (is_of_server id) (change objects.server (table_id id)) objects.server;
}

-- the row of an id, if it has one
abbrev pub look : Objects → ℕ → Option Entry
look objects id = in_range table.look objects id

-- whether an id has a row
abbrev pub is_held : Objects → ℕ → Bool
is_held objects id = is_some (look objects id)

-- whether an id has the row of a live object
abbrev pub is_live : Objects → ℕ → Bool
is_live objects id = table.lives_in (look objects id)

-- how many objects were born in an id's range; the next object there gets this birth
abbrev pub births : Objects → ℕ → ℕ
births objects id = in_range (λ view place. view.births) objects id

-- the birth of a maker's next object
abbrev pub next_birth : Maker → Objects → ℕ
next_birth Client objects = objects.client.births
next_birth Server objects = objects.server.births

-- how many ids of a maker's range were used
abbrev pub ids_used : Maker → Objects → ℕ
ids_used Client objects = objects.client.used
ids_used Server objects = objects.server.used - 1

-- how many ids of a maker's range have a row
abbrev pub row_count : Maker → Objects → ℕ
row_count Client objects = len objects.client.rows
row_count Server objects = len objects.server.rows - 1

-- whether an id is freed, or the next new one of its range
abbrev pub free_or_next : Objects → ℕ → Bool
free_or_next objects id = in_range table.free_or_next objects id

-- whether the limits of an id's range leave room for an object at the id
abbrev pub has_room : Objects → ℕ → Bool
has_room objects id = in_range table.has_room objects id

-- the id of a maker's next object: the one of its range that was freed last, or the next new one if
-- none is free
abbrev pub next_id : Maker → Objects → ℕ
next_id Client objects = table.next_id objects.client
next_id Server objects = wire_id (table.next_id objects.server)

-- whether the limits leave room for one more object of a maker
abbrev pub can_open : Maker → Objects → Bool
can_open Client objects = table.can_open objects.client
can_open Server objects = table.can_open objects.server

-- the interface of row 1 of the server's table, which has no meaning
abbrev pub no_interface : Iface
no_interface = record { 0 = 0 }

-- a new end has wl_display alone: id 1, birth 0, version 1
abbrev pub opening : Iface → Bool → Objects
opening display has_server_range = record {
  client = table.opening display;
  server = table.opening no_interface;
  has_server_range = has_server_range;
}

-- no object was ever opened in the server's range
abbrev pub IsServerRangeNew : Objects → Type 0
IsServerRangeNew objects = objects.server ≡ table.opening no_interface

-- if the end keeps no table of the server's range, that range is new
abbrev pub KeepsRangeNew : Objects → Type 0
KeepsRangeNew objects = objects.has_server_range ≡ false → IsServerRangeNew objects

-- an object was opened at an id, with the next birth of the id's range
abbrev pub opened_at : Objects → ℕ → Iface → ℕ → Objects
opened_at objects id iface version =
    changed_at (λ view place. table.opened_at view place iface version) objects id

-- a maker's object was opened at the next id
abbrev pub opened : Maker → Objects → Iface → ℕ → Objects
opened maker objects iface version = opened_at objects (next_id maker objects) iface version

-- an object's row was removed and its id freed
abbrev pub closed : Objects → ℕ → Objects
closed objects id = changed_at table.closed objects id

-- an object became a zombie
abbrev pub zombied : Objects → ℕ → Objects
zombied objects id = changed_at table.zombied objects id

-- What always holds for objects.
pub record ObjectsAreSound (objects : Objects) : Type 0 where
  pub client : table.Sound objects.client
  pub server : table.Sound objects.server

-- Objects as the value that two tables represent.

-- the table of the server's range if there is one, else that of a new end
abbrev pub server_view : {X : Type 0} → (X → View) → Option X → View
server_view says None = table.opening no_interface
server_view says (Some held) = says held

abbrev pub objects_code : Coded Objects
objects_code =
    code_by (View × (View × Bool))
    (coded× table.view_code (coded× table.view_code coded_bool))
    (λ o. (o.client, (o.server, o.has_server_range)))
    (λ p. record { client = p.0; server = p.1.0; has_server_range = p.1.1 })
    (λ _. refl)
