-- The state of a server: an end, the globals that it added, and what was announced to each open
-- registry.
use Rattle.std.specs.Prelude.{ℕ, zero, suc, ◌-◌, ◌≤◌, Bool, true, false, List, [], ◌∷◌, slice_get}
use Rattle.std.specs.Prelude.{slice_set, unwrap_or, replicate, Option, None}
use Rattle.wl_wire.specs.declared.kind.Iface.{Iface}
use Rattle.wl_sigs.specs.Tables.{Interface}
use Rattle.wl_message.specs.declared.amounts.Sizes.{Sizes}
use Rattle.wl_object_map.specs.declared.object.Object.{Object}
use Rattle.wl_connection.specs.Core.{Core, new_core}
use Rattle.wl_connection.specs.Core.{max_globals}

-- the most globals that any server adds in its life, whatever it is allowed
abbrev pub most_globals : ℕ
most_globals = 4096

-- a global: what is advertised, and whether it is present or withdrawn
pub record Global : Type 0 where
  pub iface : Iface
  pub version : ℕ
  pub present : Bool

-- an open registry, the names announced to it, and those whose removal was sent to it
pub record Registry : Type 0 where
  pub object : Object
  pub told : List Bool
  pub removed : List Bool

-- The globals in the order of their names, which are 1, 2, 3, ..; the open registries in the order
-- of their births.
pub record State : Type 0 where
  pub core : Core
  pub globals : List Global
  pub registries : List Registry
  -- how many globals it may add in its life, if that is at most `most_globals`
  pub allowed : ℕ

abbrev pub new_state : List Interface → Sizes → State
new_state tables sizes = record {
  core = new_core tables sizes;
  globals = [];
  registries = [];
  allowed = max_globals;
}

abbrev pub with_core : State → Core → State
with_core state core = record state { core = core }

-- the global with a name, present or withdrawn
abbrev pub global_of : List Global → ℕ → Option Global
global_of globals zero = None
global_of globals (suc place) = slice_get globals place

-- whether the set has a name
abbrev pub has_name : List Bool → ℕ → Bool
has_name names name = unwrap_or (slice_get names (name - 1)) false

-- the set with a name added
abbrev pub with_name : List Bool → ℕ → List Bool
with_name names name = slice_set names (name - 1) true

-- a registry to which nothing was announced yet
abbrev pub untold : Object → Registry
untold object = record {
  object = object;
  told = replicate most_globals false;
  removed = replicate most_globals false;
}

-- the births of these registries rise, starting at the first number or above, and are below the
-- last
abbrev pub RiseFrom : ℕ → ℕ → List Registry → Type 0
RiseFrom low high [] = low ≤ high
RiseFrom low high (r ∷ registries) =
    (low ≤ r.object.birth) × RiseFrom (suc r.object.birth) high registries
