-- The session of the demonstration: a client binds two globals, asks for a callback, and makes,
-- commits and destroys a surface.
use Rattle.std.specs.Prelude.{ℕ, List, [], ◌∷◌, codes, unwrap_or}
use Rattle.wl_wire.specs.declared.kind.Iface.{Iface}
use Rattle.wl_wire.specs.Argument.{Uint, New}
use Rattle.wl_sigs.specs.Tables.{Interface, place_of}
use Rattle.wl_sigs.specs.Fixed.{display}
use Rattle.wl_message.specs.declared.amounts.Sizes.{Sizes}
use Rattle.wl_message.specs.Limits.{usual}
use Rattle.wl_object_map.specs.declared.object.Object.{Object}
use Rattle.wl_objects.specs.Writing.{Given}
use Rattle.theory_connection.specs.Pair.{Move, ClientSend, ClientBind, ServerSend, AddGlobal}
use Rattle.theory_connection.specs.Pair.{Announce}

abbrev pub object_of_birth : ℕ → ℕ → Object
object_of_birth id birth = record { id = id; birth = birth }

-- the objects of the session; the surface has the id of the callback, which is gone by then
abbrev pub the_display : Object
the_display = object_of_birth 1 0

abbrev pub the_registry : Object
the_registry = object_of_birth 2 1

abbrev pub the_compositor : Object
the_compositor = object_of_birth 3 2

abbrev pub the_callback : Object
the_callback = object_of_birth 5 4

abbrev pub the_surface : Object
the_surface = object_of_birth 5 5

-- the index of the interface with this name; a name that is not in the tables means wl_display,
-- which no server adds
abbrev pub interface_or_display : List Interface → List ℕ → Iface
interface_or_display tables name = unwrap_or (place_of tables name) display

-- a new object, which the call makes
abbrev pub new_object : Given
new_object = New tt

-- the server adds wl_compositor at version 6 and wl_seat at version 9
abbrev pub adding_globals : List Interface → List Move
adding_globals tables =
    AddGlobal (interface_or_display tables (codes "wl_compositor")) 6
    ∷ AddGlobal (interface_or_display tables (codes "wl_seat")) 9 ∷ []

-- wl_display.get_registry
abbrev pub getting_registry : List Move
getting_registry = ClientSend the_display 1 (new_object ∷ []) ∷ []

-- wl_registry.global, for all globals
abbrev pub announcing_globals : List Move
announcing_globals = Announce ∷ []

-- wl_registry.bind of both globals, and wl_display.sync
abbrev pub binding_globals : List Move
binding_globals =
    ClientBind the_registry 1 (codes "wl_compositor") 6
    ∷ ClientBind the_registry 2 (codes "wl_seat") 9
    ∷ ClientSend the_display 0 (new_object ∷ []) ∷ []

-- wl_callback.done
abbrev pub finishing_callback : List Move
finishing_callback = ServerSend the_callback 0 (Uint 1 ∷ []) ∷ []

-- wl_compositor.create_surface, wl_surface.commit and wl_surface.destroy
abbrev pub drawing_surface : List Move
drawing_surface =
    ClientSend the_compositor 0 (new_object ∷ [])
    ∷ ClientSend the_surface 6 [] ∷ ClientSend the_surface 0 [] ∷ []

-- the queues of each end
abbrev pub sizes : Sizes
sizes = record {
  out_bytes = 65536;
  out_tokens = 64;
  in_bytes = 65536;
  in_tokens = 64;
  limit = usual;
}
