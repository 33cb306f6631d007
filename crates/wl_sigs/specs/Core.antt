-- Made by scripts/core_files.py. The core interfaces of wayland.xml, at these versions, in
-- this order, without the data transfer interfaces. For each message: its name, the version
-- of its interface that introduced it, the kinds of its arguments, and what it destroys.
use Rattle.std.specs.Prelude.{List, [], ◌∷◌, codes, map, Some}
use Rattle.wl_wire.specs.declared.kind.Iface.{Iface}
use Rattle.wl_sigs.specs.Destroys.TheVariants.{Nothing, Target}
use Rattle.wl_sigs.specs.Tables.{Interface, MessageSignature}
use Rattle.wl_sigs.specs.Fixed.{message, int, uint, fixed, string, array, fd, object}
use Rattle.wl_sigs.specs.Fixed.{object_or_null, new, callback, wl_display, wl_registry, wl_callback}
use Rattle.wl_sigs.specs.Fixed.{wl_fixes}

-- the indices of the further interfaces
abbrev compositor : Iface
compositor = record { 0 = 3 }

abbrev shm : Iface
shm = record { 0 = 4 }

abbrev shm_pool : Iface
shm_pool = record { 0 = 5 }

abbrev buffer : Iface
buffer = record { 0 = 6 }

abbrev surface : Iface
surface = record { 0 = 7 }

abbrev region : Iface
region = record { 0 = 8 }

abbrev seat : Iface
seat = record { 0 = 9 }

abbrev pointer : Iface
pointer = record { 0 = 10 }

abbrev keyboard : Iface
keyboard = record { 0 = 11 }

abbrev touch : Iface
touch = record { 0 = 12 }

abbrev output : Iface
output = record { 0 = 13 }

abbrev subcompositor : Iface
subcompositor = record { 0 = 14 }

abbrev subsurface : Iface
subsurface = record { 0 = 15 }

abbrev shell : Iface
shell = record { 0 = 16 }

abbrev shell_surface : Iface
shell_surface = record { 0 = 17 }

abbrev wl_compositor : Interface
wl_compositor = record {
  name = codes "wl_compositor";
  version = 6;
  requests =
      message (codes "create_surface") 1 ((new (Some surface)) ∷ []) Nothing ∷
      message (codes "create_region") 1 ((new (Some region)) ∷ []) Nothing ∷
      [];
  events = [];
}

abbrev wl_shm : Interface
wl_shm = record {
  name = codes "wl_shm";
  version = 2;
  requests =
      message (codes "create_pool") 1 ((new (Some shm_pool)) ∷ fd ∷ int ∷ []) Nothing ∷
      message (codes "release") 2 ([]) Target ∷
      [];
  events =
      message (codes "format") 1 (uint ∷ []) Nothing ∷
      [];
}

abbrev wl_shm_pool : Interface
wl_shm_pool = record {
  name = codes "wl_shm_pool";
  version = 2;
  requests =
      message (codes "create_buffer") 1
      ((new (Some buffer)) ∷ int ∷ int ∷ int ∷ int ∷ uint ∷ []) Nothing ∷
      message (codes "destroy") 1 ([]) Target ∷
      message (codes "resize") 1 (int ∷ []) Nothing ∷
      [];
  events = [];
}

abbrev wl_buffer : Interface
wl_buffer = record {
  name = codes "wl_buffer";
  version = 1;
  requests =
      message (codes "destroy") 1 ([]) Target ∷
      [];
  events =
      message (codes "release") 1 ([]) Nothing ∷
      [];
}

abbrev wl_surface : Interface
wl_surface = record {
  name = codes "wl_surface";
  version = 6;
  requests =
      message (codes "destroy") 1 ([]) Target ∷
      message (codes "attach") 1 ((object_or_null buffer) ∷ int ∷ int ∷ []) Nothing ∷
      message (codes "damage") 1 (int ∷ int ∷ int ∷ int ∷ []) Nothing ∷
      message (codes "frame") 1 ((new (Some callback)) ∷ []) Nothing ∷
      message (codes "set_opaque_region") 1 ((object_or_null region) ∷ []) Nothing ∷
      message (codes "set_input_region") 1 ((object_or_null region) ∷ []) Nothing ∷
      message (codes "commit") 1 ([]) Nothing ∷
      message (codes "set_buffer_transform") 2 (int ∷ []) Nothing ∷
      message (codes "set_buffer_scale") 3 (int ∷ []) Nothing ∷
      message (codes "damage_buffer") 4 (int ∷ int ∷ int ∷ int ∷ []) Nothing ∷
      message (codes "offset") 5 (int ∷ int ∷ []) Nothing ∷
      [];
  events =
      message (codes "enter") 1 ((object output) ∷ []) Nothing ∷
      message (codes "leave") 1 ((object output) ∷ []) Nothing ∷
      message (codes "preferred_buffer_scale") 6 (int ∷ []) Nothing ∷
      message (codes "preferred_buffer_transform") 6 (uint ∷ []) Nothing ∷
      [];
}

abbrev wl_region : Interface
wl_region = record {
  name = codes "wl_region";
  version = 1;
  requests =
      message (codes "destroy") 1 ([]) Target ∷
      message (codes "add") 1 (int ∷ int ∷ int ∷ int ∷ []) Nothing ∷
      message (codes "subtract") 1 (int ∷ int ∷ int ∷ int ∷ []) Nothing ∷
      [];
  events = [];
}

abbrev wl_seat : Interface
wl_seat = record {
  name = codes "wl_seat";
  version = 9;
  requests =
      message (codes "get_pointer") 1 ((new (Some pointer)) ∷ []) Nothing ∷
      message (codes "get_keyboard") 1 ((new (Some keyboard)) ∷ []) Nothing ∷
      message (codes "get_touch") 1 ((new (Some touch)) ∷ []) Nothing ∷
      message (codes "release") 5 ([]) Target ∷
      [];
  events =
      message (codes "capabilities") 1 (uint ∷ []) Nothing ∷
      message (codes "name") 2 (string ∷ []) Nothing ∷
      [];
}

abbrev wl_pointer : Interface
wl_pointer = record {
  name = codes "wl_pointer";
  version = 9;
  requests =
      message (codes "set_cursor") 1 (uint ∷ (object_or_null surface) ∷ int ∷ int ∷ []) Nothing ∷
      message (codes "release") 3 ([]) Target ∷
      [];
  events =
      message (codes "enter") 1 (uint ∷ (object surface) ∷ fixed ∷ fixed ∷ []) Nothing ∷
      message (codes "leave") 1 (uint ∷ (object surface) ∷ []) Nothing ∷
      message (codes "motion") 1 (uint ∷ fixed ∷ fixed ∷ []) Nothing ∷
      message (codes "button") 1 (uint ∷ uint ∷ uint ∷ uint ∷ []) Nothing ∷
      message (codes "axis") 1 (uint ∷ uint ∷ fixed ∷ []) Nothing ∷
      message (codes "frame") 5 ([]) Nothing ∷
      message (codes "axis_source") 5 (uint ∷ []) Nothing ∷
      message (codes "axis_stop") 5 (uint ∷ uint ∷ []) Nothing ∷
      message (codes "axis_discrete") 5 (uint ∷ int ∷ []) Nothing ∷
      message (codes "axis_value120") 8 (uint ∷ int ∷ []) Nothing ∷
      message (codes "axis_relative_direction") 9 (uint ∷ uint ∷ []) Nothing ∷
      [];
}

abbrev wl_keyboard : Interface
wl_keyboard = record {
  name = codes "wl_keyboard";
  version = 9;
  requests =
      message (codes "release") 3 ([]) Target ∷
      [];
  events =
      message (codes "keymap") 1 (uint ∷ fd ∷ uint ∷ []) Nothing ∷
      message (codes "enter") 1 (uint ∷ (object surface) ∷ array ∷ []) Nothing ∷
      message (codes "leave") 1 (uint ∷ (object surface) ∷ []) Nothing ∷
      message (codes "key") 1 (uint ∷ uint ∷ uint ∷ uint ∷ []) Nothing ∷
      message (codes "modifiers") 1 (uint ∷ uint ∷ uint ∷ uint ∷ uint ∷ []) Nothing ∷
      message (codes "repeat_info") 4 (int ∷ int ∷ []) Nothing ∷
      [];
}

abbrev wl_touch : Interface
wl_touch = record {
  name = codes "wl_touch";
  version = 9;
  requests =
      message (codes "release") 3 ([]) Target ∷
      [];
  events =
      message (codes "down") 1 (uint ∷ uint ∷ (object surface) ∷ int ∷ fixed ∷ fixed ∷ []) Nothing ∷
      message (codes "up") 1 (uint ∷ uint ∷ int ∷ []) Nothing ∷
      message (codes "motion") 1 (uint ∷ int ∷ fixed ∷ fixed ∷ []) Nothing ∷
      message (codes "frame") 1 ([]) Nothing ∷
      message (codes "cancel") 1 ([]) Nothing ∷
      message (codes "shape") 6 (int ∷ fixed ∷ fixed ∷ []) Nothing ∷
      message (codes "orientation") 6 (int ∷ fixed ∷ []) Nothing ∷
      [];
}

abbrev wl_output : Interface
wl_output = record {
  name = codes "wl_output";
  version = 4;
  requests =
      message (codes "release") 3 ([]) Target ∷
      [];
  events =
      message (codes "geometry") 1
      (int ∷ int ∷ int ∷ int ∷ int ∷ string ∷ string ∷ int ∷ []) Nothing ∷
      message (codes "mode") 1 (uint ∷ int ∷ int ∷ int ∷ []) Nothing ∷
      message (codes "done") 2 ([]) Nothing ∷
      message (codes "scale") 2 (int ∷ []) Nothing ∷
      message (codes "name") 4 (string ∷ []) Nothing ∷
      message (codes "description") 4 (string ∷ []) Nothing ∷
      [];
}

abbrev wl_subcompositor : Interface
wl_subcompositor = record {
  name = codes "wl_subcompositor";
  version = 1;
  requests =
      message (codes "destroy") 1 ([]) Target ∷
      message (codes "get_subsurface") 1
      ((new (Some subsurface)) ∷ (object surface) ∷ (object surface) ∷ []) Nothing ∷
      [];
  events = [];
}

abbrev wl_subsurface : Interface
wl_subsurface = record {
  name = codes "wl_subsurface";
  version = 1;
  requests =
      message (codes "destroy") 1 ([]) Target ∷
      message (codes "set_position") 1 (int ∷ int ∷ []) Nothing ∷
      message (codes "place_above") 1 ((object surface) ∷ []) Nothing ∷
      message (codes "place_below") 1 ((object surface) ∷ []) Nothing ∷
      message (codes "set_sync") 1 ([]) Nothing ∷
      message (codes "set_desync") 1 ([]) Nothing ∷
      [];
  events = [];
}

abbrev wl_shell : Interface
wl_shell = record {
  name = codes "wl_shell";
  version = 1;
  requests =
      message (codes "get_shell_surface") 1
      ((new (Some shell_surface)) ∷ (object surface) ∷ []) Nothing ∷
      [];
  events = [];
}

abbrev wl_shell_surface : Interface
wl_shell_surface = record {
  name = codes "wl_shell_surface";
  version = 1;
  requests =
      message (codes "pong") 1 (uint ∷ []) Nothing ∷
      message (codes "move") 1 ((object seat) ∷ uint ∷ []) Nothing ∷
      message (codes "resize") 1 ((object seat) ∷ uint ∷ uint ∷ []) Nothing ∷
      message (codes "set_toplevel") 1 ([]) Nothing ∷
      message (codes "set_transient") 1 ((object surface) ∷ int ∷ int ∷ uint ∷ []) Nothing ∷
      message (codes "set_fullscreen") 1 (uint ∷ uint ∷ (object_or_null output) ∷ []) Nothing ∷
      message (codes "set_popup") 1
      ((object seat) ∷ uint ∷ (object surface) ∷ int ∷ int ∷ uint ∷ []) Nothing ∷
      message (codes "set_maximized") 1 ((object_or_null output) ∷ []) Nothing ∷
      message (codes "set_title") 1 (string ∷ []) Nothing ∷
      message (codes "set_class") 1 (string ∷ []) Nothing ∷
      [];
  events =
      message (codes "ping") 1 (uint ∷ []) Nothing ∷
      message (codes "configure") 1 (uint ∷ int ∷ int ∷ []) Nothing ∷
      message (codes "popup_done") 1 ([]) Nothing ∷
      [];
}

-- The interfaces in order. Proofs about tables use the rules of valid tables, and do not
-- unfold this list.
unfoldable pub core_tables : List Interface
core_tables =
    wl_display ∷
    wl_registry ∷
    wl_callback ∷
    wl_compositor ∷
    wl_shm ∷
    wl_shm_pool ∷
    wl_buffer ∷
    wl_surface ∷
    wl_region ∷
    wl_seat ∷
    wl_pointer ∷
    wl_keyboard ∷
    wl_touch ∷
    wl_output ∷
    wl_subcompositor ∷
    wl_subsurface ∷
    wl_shell ∷
    wl_shell_surface ∷
    wl_fixes ∷
    []

-- ---- for a server whose caller ends objects itself, and sends events of any version

abbrev unended_request : MessageSignature → MessageSignature
unended_request request = record request { destroys = Nothing }

abbrev first_event : MessageSignature → MessageSignature
first_event event = record event { since = 1 }

-- no request destroys an object, and every event is there from version 1 on
abbrev unended : Interface → Interface
unended i = record i {
  requests = map unended_request i.requests;
  events = map first_event i.events;
}

-- The same interfaces in this form, except the four that all tables have.
unfoldable pub unended_tables : List Interface
unended_tables =
    wl_display ∷
    wl_registry ∷
    wl_callback ∷
    unended wl_compositor ∷
    unended wl_shm ∷
    unended wl_shm_pool ∷
    unended wl_buffer ∷
    unended wl_surface ∷
    unended wl_region ∷
    unended wl_seat ∷
    unended wl_pointer ∷
    unended wl_keyboard ∷
    unended wl_touch ∷
    unended wl_output ∷
    unended wl_subcompositor ∷
    unended wl_subsurface ∷
    unended wl_shell ∷
    unended wl_shell_surface ∷
    wl_fixes ∷
    []
