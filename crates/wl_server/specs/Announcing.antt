-- The events that the open registries are still owed.
use Rattle.std.specs.Prelude.{ℕ, suc, ◌+◌, ◌≤◌, Bool, not, ◌&&◌, nat_eq, if◌then◌else◌}
use Rattle.std.specs.Prelude.{List, [], ◌∷◌, ◌++◌, length, take, map, Some}
use Rattle.std.specs.Option.{option_map_or}
use Rattle.wl_wire.specs.declared.kind.Iface.{Iface}
use Rattle.wl_wire.specs.Argument.{Argument, Uint, Str}
use Rattle.wl_sigs.specs.Tables.{Interface, interface_at}
use Rattle.wl_object_map.specs.declared.object.Object.{Object}
use Rattle.wl_objects.specs.Writing.{message_len}
use Rattle.wl_message.specs.Outgoing.{room_of}
use Rattle.wl_connection.specs.Core.{Core}
use Rattle.wl_connection.specs.Sending.{with_sent}
use Rattle.wl_server.specs.State.{State, Global, Registry, has_name, with_name}

-- an event that a registry is owed
pub data Owing : Type 0 where
  -- global_remove of a name
  Removal : (name : ℕ) → Owing
  -- global of a name
  Telling : (name : ℕ) → Global → Owing

-- a registry is owed global_remove of each name that was announced to it and is withdrawn, until
-- that is sent
abbrev pub owes_removal : Registry → ℕ → Global → Bool
owes_removal registry name global =
    (has_name registry.told name && not global.present) && not (has_name registry.removed name)

-- and global of each present name that was not announced to it
abbrev pub owes_telling : Registry → ℕ → Global → Bool
owes_telling registry name global = global.present && not (has_name registry.told name)

-- the owed events, by the test, for the names of these globals, numbered from this name
abbrev pub owings : (ℕ → Global → Bool) → (ℕ → Global → Owing) → ℕ → List Global → List Owing
owings test owing name [] = []
owings test owing name (global ∷ globals) =
    if test name global then owing name global ∷ owings test owing (suc name) globals
    else owings test owing (suc name) globals

-- what one registry is owed: the removals in order of name, then the globals in order of name
abbrev pub owed_to : List Global → Registry → List Owing
owed_to globals registry =
    owings (owes_removal registry) (λ name _. Removal name) 1 globals
    ++ owings (owes_telling registry) Telling 1 globals

-- an owed event, and the registry that it is for
pub record Due : Type 0 where
  pub object : Object
  pub owing : Owing

abbrev pub due_to : List Global → Registry → List Due
due_to globals registry =
    map (λ owing. record { object = registry.object; owing = owing }) (owed_to globals registry)

abbrev pub owed_in : List Global → List Registry → List Due
owed_in globals [] = []
owed_in globals (registry ∷ registries) = due_to globals registry ++ owed_in globals registries

-- All that is owed, to the open registries in order of birth.
abbrev pub owed : State → List Due
owed state = owed_in state.globals state.registries

abbrev pub name_at : List Interface → Iface → List ℕ
name_at tables iface = option_map_or (λ i. i.name) (interface_at tables iface.0) []

abbrev pub owed_opcode : Owing → ℕ
owed_opcode (Removal name) = 1
owed_opcode (Telling name global) = 0

abbrev pub values_of : List Interface → Owing → List Argument
values_of tables (Removal name) = Uint name ∷ []
values_of tables (Telling name global) =
    Uint name ∷ Str (Some (name_at tables global.iface)) ∷ Uint global.version ∷ []

-- the length of these events in bytes
abbrev pub due_len : List Interface → List Due → ℕ
due_len tables [] = 0
due_len tables (due ∷ dues) = message_len (values_of tables due.owing) + due_len tables dues

-- This number is the most of the first owed events that fit into the outbox.
pub record Fitting (state : State) (count : ℕ) : Type 0 where
  pub there : count ≤ length (owed state)
  pub fits : due_len state.core.tables (take count (owed state)) ≤ room_of state.core.outbox
  pub most : (more : ℕ) → more ≤ length (owed state)
      → due_len state.core.tables (take more (owed state)) ≤ room_of state.core.outbox
      → more ≤ count

-- the end after these events were written
abbrev pub with_dues : Core → List Due → Core
with_dues core [] = core
with_dues core (due ∷ dues) =
    with_dues
    (with_sent core due.object.id (owed_opcode due.owing) (values_of core.tables due.owing) []) dues

-- a registry with the name of an event that was sent to it added
abbrev pub marked : Owing → Registry → Registry
marked (Removal name) registry = record registry { removed = with_name registry.removed name }
marked (Telling name global) registry = record registry { told = with_name registry.told name }

abbrev pub marked_in : Due → List Registry → List Registry
marked_in due [] = []
marked_in due (registry ∷ registries) =
    (if nat_eq registry.object.birth due.object.birth then marked due.owing registry else registry)
    ∷ marked_in due registries

abbrev pub all_marked : List Due → List Registry → List Registry
all_marked [] registries = registries
all_marked (due ∷ dues) registries = all_marked dues (marked_in due registries)

-- The server after the first of the owed events were written and marked as sent.
abbrev pub after_announce : State → ℕ → State
after_announce state count = record state {
  core = with_dues state.core (take count (owed state));
  registries = all_marked (take count (owed state)) state.registries;
}
