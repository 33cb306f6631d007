-- The constants of the modules `request` and `event`, with the messages' names.
use Rattle.std.specs.Prelude.{ℕ, ◌+◌, List, [], ◌∷◌, codes, map}
use Rattle.wl_sigs.specs.Side.{Side}
use Rattle.wl_sigs.specs.Side.TheVariants.{Request, Event}
-- Made by scripts/core_files.py from core.xml, down to the next mark.
use Rattle.wl_sigs.specs.declared.request.wl_display.TheConstants as request_wl_display
use Rattle.wl_sigs.specs.declared.request.wl_registry.TheConstants as request_wl_registry
use Rattle.wl_sigs.specs.declared.request.wl_compositor.TheConstants as request_wl_compositor
use Rattle.wl_sigs.specs.declared.request.wl_shm.TheConstants as request_wl_shm
use Rattle.wl_sigs.specs.declared.request.wl_shm_pool.TheConstants as request_wl_shm_pool
use Rattle.wl_sigs.specs.declared.request.wl_buffer.TheConstants as request_wl_buffer
use Rattle.wl_sigs.specs.declared.request.wl_surface.TheConstants as request_wl_surface
use Rattle.wl_sigs.specs.declared.request.wl_region.TheConstants as request_wl_region
use Rattle.wl_sigs.specs.declared.request.wl_seat.TheConstants as request_wl_seat
use Rattle.wl_sigs.specs.declared.request.wl_pointer.TheConstants as request_wl_pointer
use Rattle.wl_sigs.specs.declared.request.wl_keyboard.TheConstants as request_wl_keyboard
use Rattle.wl_sigs.specs.declared.request.wl_touch.TheConstants as request_wl_touch
use Rattle.wl_sigs.specs.declared.request.wl_output.TheConstants as request_wl_output
use Rattle.wl_sigs.specs.declared.request.wl_subcompositor.TheConstants as request_wl_subcompositor
use Rattle.wl_sigs.specs.declared.request.wl_subsurface.TheConstants as request_wl_subsurface
use Rattle.wl_sigs.specs.declared.request.wl_shell.TheConstants as request_wl_shell
use Rattle.wl_sigs.specs.declared.request.wl_shell_surface.TheConstants as request_wl_shell_surface
use Rattle.wl_sigs.specs.declared.request.wl_fixes.TheConstants as request_wl_fixes
use Rattle.wl_sigs.specs.declared.event.wl_display.TheConstants as event_wl_display
use Rattle.wl_sigs.specs.declared.event.wl_registry.TheConstants as event_wl_registry
use Rattle.wl_sigs.specs.declared.event.wl_callback.TheConstants as event_wl_callback
use Rattle.wl_sigs.specs.declared.event.wl_shm.TheConstants as event_wl_shm
use Rattle.wl_sigs.specs.declared.event.wl_buffer.TheConstants as event_wl_buffer
use Rattle.wl_sigs.specs.declared.event.wl_surface.TheConstants as event_wl_surface
use Rattle.wl_sigs.specs.declared.event.wl_seat.TheConstants as event_wl_seat
use Rattle.wl_sigs.specs.declared.event.wl_pointer.TheConstants as event_wl_pointer
use Rattle.wl_sigs.specs.declared.event.wl_keyboard.TheConstants as event_wl_keyboard
use Rattle.wl_sigs.specs.declared.event.wl_touch.TheConstants as event_wl_touch
use Rattle.wl_sigs.specs.declared.event.wl_output.TheConstants as event_wl_output
use Rattle.wl_sigs.specs.declared.event.wl_shell_surface.TheConstants as event_wl_shell_surface
-- End of what is generated.
use Rattle.wl_sigs.specs.Tables.{MessageSignature, Interface, messages_of}

-- a message's name and opcode
pub record Opcode : Type 0 where
  pub name : List ℕ
  pub opcode : ℕ

-- the opcodes of the messages of one side of an interface, with the interface's name
pub record Opcodes : Type 0 where
  pub name : List ℕ
  pub messages : List Opcode

abbrev at_opcode : ℕ → List ℕ → Opcode
at_opcode opcode name = record { name = name; opcode = opcode }

abbrev in_interface : List ℕ → List Opcode → Opcodes
in_interface name messages = record { name = name; messages = messages }

-- the opcodes of messages, numbered from this one
abbrev pub opcodes_from : ℕ → List MessageSignature → List Opcode
opcodes_from n [] = []
opcodes_from n (m ∷ ms) = at_opcode n m.name ∷ opcodes_from (n + 1) ms

-- the opcodes of one side's messages in tables, interface by interface
abbrev pub opcodes_in : List Interface → Side → List Opcodes
opcodes_in tables side = map (λ i. in_interface i.name (opcodes_from 0 (messages_of side i))) tables

-- Made by scripts/core_files.py from core.xml, down to the next mark.

-- each constant, by its module's name and its own, both in lower case
abbrev pub opcodes : Side → List Opcodes
opcodes Request =
    in_interface (codes "wl_display") (
    at_opcode request_wl_display.SYNC (codes "sync") ∷
    at_opcode request_wl_display.GET_REGISTRY (codes "get_registry") ∷
    []) ∷
    in_interface (codes "wl_registry") (
    at_opcode request_wl_registry.BIND (codes "bind") ∷
    []) ∷
    in_interface (codes "wl_callback") [] ∷
    in_interface (codes "wl_compositor") (
    at_opcode request_wl_compositor.CREATE_SURFACE (codes "create_surface") ∷
    at_opcode request_wl_compositor.CREATE_REGION (codes "create_region") ∷
    []) ∷
    in_interface (codes "wl_shm") (
    at_opcode request_wl_shm.CREATE_POOL (codes "create_pool") ∷
    at_opcode request_wl_shm.RELEASE (codes "release") ∷
    []) ∷
    in_interface (codes "wl_shm_pool") (
    at_opcode request_wl_shm_pool.CREATE_BUFFER (codes "create_buffer") ∷
    at_opcode request_wl_shm_pool.DESTROY (codes "destroy") ∷
    at_opcode request_wl_shm_pool.RESIZE (codes "resize") ∷
    []) ∷
    in_interface (codes "wl_buffer") (
    at_opcode request_wl_buffer.DESTROY (codes "destroy") ∷
    []) ∷
    in_interface (codes "wl_surface") (
    at_opcode request_wl_surface.DESTROY (codes "destroy") ∷
    at_opcode request_wl_surface.ATTACH (codes "attach") ∷
    at_opcode request_wl_surface.DAMAGE (codes "damage") ∷
    at_opcode request_wl_surface.FRAME (codes "frame") ∷
    at_opcode request_wl_surface.SET_OPAQUE_REGION (codes "set_opaque_region") ∷
    at_opcode request_wl_surface.SET_INPUT_REGION (codes "set_input_region") ∷
    at_opcode request_wl_surface.COMMIT (codes "commit") ∷
    at_opcode request_wl_surface.SET_BUFFER_TRANSFORM (codes "set_buffer_transform") ∷
    at_opcode request_wl_surface.SET_BUFFER_SCALE (codes "set_buffer_scale") ∷
    at_opcode request_wl_surface.DAMAGE_BUFFER (codes "damage_buffer") ∷
    at_opcode request_wl_surface.OFFSET (codes "offset") ∷
    []) ∷
    in_interface (codes "wl_region") (
    at_opcode request_wl_region.DESTROY (codes "destroy") ∷
    at_opcode request_wl_region.ADD (codes "add") ∷
    at_opcode request_wl_region.SUBTRACT (codes "subtract") ∷
    []) ∷
    in_interface (codes "wl_seat") (
    at_opcode request_wl_seat.GET_POINTER (codes "get_pointer") ∷
    at_opcode request_wl_seat.GET_KEYBOARD (codes "get_keyboard") ∷
    at_opcode request_wl_seat.GET_TOUCH (codes "get_touch") ∷
    at_opcode request_wl_seat.RELEASE (codes "release") ∷
    []) ∷
    in_interface (codes "wl_pointer") (
    at_opcode request_wl_pointer.SET_CURSOR (codes "set_cursor") ∷
    at_opcode request_wl_pointer.RELEASE (codes "release") ∷
    []) ∷
    in_interface (codes "wl_keyboard") (
    at_opcode request_wl_keyboard.RELEASE (codes "release") ∷
    []) ∷
    in_interface (codes "wl_touch") (
    at_opcode request_wl_touch.RELEASE (codes "release") ∷
    []) ∷
    in_interface (codes "wl_output") (
    at_opcode request_wl_output.RELEASE (codes "release") ∷
    []) ∷
    in_interface (codes "wl_subcompositor") (
    at_opcode request_wl_subcompositor.DESTROY (codes "destroy") ∷
    at_opcode request_wl_subcompositor.GET_SUBSURFACE (codes "get_subsurface") ∷
    []) ∷
    in_interface (codes "wl_subsurface") (
    at_opcode request_wl_subsurface.DESTROY (codes "destroy") ∷
    at_opcode request_wl_subsurface.SET_POSITION (codes "set_position") ∷
    at_opcode request_wl_subsurface.PLACE_ABOVE (codes "place_above") ∷
    at_opcode request_wl_subsurface.PLACE_BELOW (codes "place_below") ∷
    at_opcode request_wl_subsurface.SET_SYNC (codes "set_sync") ∷
    at_opcode request_wl_subsurface.SET_DESYNC (codes "set_desync") ∷
    []) ∷
    in_interface (codes "wl_shell") (
    at_opcode request_wl_shell.GET_SHELL_SURFACE (codes "get_shell_surface") ∷
    []) ∷
    in_interface (codes "wl_shell_surface") (
    at_opcode request_wl_shell_surface.PONG (codes "pong") ∷
    at_opcode request_wl_shell_surface.MOVE (codes "move") ∷
    at_opcode request_wl_shell_surface.RESIZE (codes "resize") ∷
    at_opcode request_wl_shell_surface.SET_TOPLEVEL (codes "set_toplevel") ∷
    at_opcode request_wl_shell_surface.SET_TRANSIENT (codes "set_transient") ∷
    at_opcode request_wl_shell_surface.SET_FULLSCREEN (codes "set_fullscreen") ∷
    at_opcode request_wl_shell_surface.SET_POPUP (codes "set_popup") ∷
    at_opcode request_wl_shell_surface.SET_MAXIMIZED (codes "set_maximized") ∷
    at_opcode request_wl_shell_surface.SET_TITLE (codes "set_title") ∷
    at_opcode request_wl_shell_surface.SET_CLASS (codes "set_class") ∷
    []) ∷
    in_interface (codes "wl_fixes") (
    at_opcode request_wl_fixes.DESTROY (codes "destroy") ∷
    at_opcode request_wl_fixes.DESTROY_REGISTRY (codes "destroy_registry") ∷
    []) ∷
    []
opcodes Event =
    in_interface (codes "wl_display") (
    at_opcode event_wl_display.ERROR (codes "error") ∷
    at_opcode event_wl_display.DELETE_ID (codes "delete_id") ∷
    []) ∷
    in_interface (codes "wl_registry") (
    at_opcode event_wl_registry.GLOBAL (codes "global") ∷
    at_opcode event_wl_registry.GLOBAL_REMOVE (codes "global_remove") ∷
    []) ∷
    in_interface (codes "wl_callback") (
    at_opcode event_wl_callback.DONE (codes "done") ∷
    []) ∷
    in_interface (codes "wl_compositor") [] ∷
    in_interface (codes "wl_shm") (
    at_opcode event_wl_shm.FORMAT (codes "format") ∷
    []) ∷
    in_interface (codes "wl_shm_pool") [] ∷
    in_interface (codes "wl_buffer") (
    at_opcode event_wl_buffer.RELEASE (codes "release") ∷
    []) ∷
    in_interface (codes "wl_surface") (
    at_opcode event_wl_surface.ENTER (codes "enter") ∷
    at_opcode event_wl_surface.LEAVE (codes "leave") ∷
    at_opcode event_wl_surface.PREFERRED_BUFFER_SCALE (codes "preferred_buffer_scale") ∷
    at_opcode event_wl_surface.PREFERRED_BUFFER_TRANSFORM (codes "preferred_buffer_transform") ∷
    []) ∷
    in_interface (codes "wl_region") [] ∷
    in_interface (codes "wl_seat") (
    at_opcode event_wl_seat.CAPABILITIES (codes "capabilities") ∷
    at_opcode event_wl_seat.NAME (codes "name") ∷
    []) ∷
    in_interface (codes "wl_pointer") (
    at_opcode event_wl_pointer.ENTER (codes "enter") ∷
    at_opcode event_wl_pointer.LEAVE (codes "leave") ∷
    at_opcode event_wl_pointer.MOTION (codes "motion") ∷
    at_opcode event_wl_pointer.BUTTON (codes "button") ∷
    at_opcode event_wl_pointer.AXIS (codes "axis") ∷
    at_opcode event_wl_pointer.FRAME (codes "frame") ∷
    at_opcode event_wl_pointer.AXIS_SOURCE (codes "axis_source") ∷
    at_opcode event_wl_pointer.AXIS_STOP (codes "axis_stop") ∷
    at_opcode event_wl_pointer.AXIS_DISCRETE (codes "axis_discrete") ∷
    at_opcode event_wl_pointer.AXIS_VALUE120 (codes "axis_value120") ∷
    at_opcode event_wl_pointer.AXIS_RELATIVE_DIRECTION (codes "axis_relative_direction") ∷
    []) ∷
    in_interface (codes "wl_keyboard") (
    at_opcode event_wl_keyboard.KEYMAP (codes "keymap") ∷
    at_opcode event_wl_keyboard.ENTER (codes "enter") ∷
    at_opcode event_wl_keyboard.LEAVE (codes "leave") ∷
    at_opcode event_wl_keyboard.KEY (codes "key") ∷
    at_opcode event_wl_keyboard.MODIFIERS (codes "modifiers") ∷
    at_opcode event_wl_keyboard.REPEAT_INFO (codes "repeat_info") ∷
    []) ∷
    in_interface (codes "wl_touch") (
    at_opcode event_wl_touch.DOWN (codes "down") ∷
    at_opcode event_wl_touch.UP (codes "up") ∷
    at_opcode event_wl_touch.MOTION (codes "motion") ∷
    at_opcode event_wl_touch.FRAME (codes "frame") ∷
    at_opcode event_wl_touch.CANCEL (codes "cancel") ∷
    at_opcode event_wl_touch.SHAPE (codes "shape") ∷
    at_opcode event_wl_touch.ORIENTATION (codes "orientation") ∷
    []) ∷
    in_interface (codes "wl_output") (
    at_opcode event_wl_output.GEOMETRY (codes "geometry") ∷
    at_opcode event_wl_output.MODE (codes "mode") ∷
    at_opcode event_wl_output.DONE (codes "done") ∷
    at_opcode event_wl_output.SCALE (codes "scale") ∷
    at_opcode event_wl_output.NAME (codes "name") ∷
    at_opcode event_wl_output.DESCRIPTION (codes "description") ∷
    []) ∷
    in_interface (codes "wl_subcompositor") [] ∷
    in_interface (codes "wl_subsurface") [] ∷
    in_interface (codes "wl_shell") [] ∷
    in_interface (codes "wl_shell_surface") (
    at_opcode event_wl_shell_surface.PING (codes "ping") ∷
    at_opcode event_wl_shell_surface.CONFIGURE (codes "configure") ∷
    at_opcode event_wl_shell_surface.POPUP_DONE (codes "popup_done") ∷
    []) ∷
    in_interface (codes "wl_fixes") [] ∷
    []

-- End of what is generated.
