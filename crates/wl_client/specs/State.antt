-- The state of a client: an end, and the globals that were announced to it.
use Rattle.std.specs.Prelude.{◌≡◌, ◌≤◌, ℕ, Bool, nat_eq, List, [], Option, None}
use Rattle.std.specs.List.{All, find}
use Rattle.wl_sigs.specs.Tables.{Interface}
use Rattle.wl_message.specs.declared.amounts.Sizes.{Sizes}
use Rattle.wl_object_map.specs.declared.object.Object.{Object}
use Rattle.wl_connection.specs.Core.{Core, new_core}
use Rattle.wl_connection.specs.ServerRange.{EventsMakeMade, NoEventEndsMade}
pub use Rattle.wl_client.specs.declared.globals.Global.{Global}

-- The remembered globals, no name twice, in the order in which their names were announced; the
-- object that the last message read made, if any; and the live object that this one replaced, if
-- any.
pub record State : Type 0 where
  pub core : Core
  pub globals : List Global
  pub made : Option Object
  pub replaced : Option Object

-- whether a global has this name
abbrev pub is_named : ℕ → Global → Bool
is_named name global = nat_eq global.name name

-- the remembered global with a name
abbrev pub global_of : List Global → ℕ → Option Global
global_of globals name = find (is_named name) globals

-- no global has a greater name than this
abbrev pub AreNamedUpTo : ℕ → List Global → Type 0
AreNamedUpTo greatest globals = All (λ global. global.name ≤ greatest) globals

abbrev pub new_state : List Interface → Sizes → State
new_state tables sizes =
    record { core = new_core tables sizes; globals = []; made = None; replaced = None }

abbrev pub with_core : State → Core → State
with_core state core = record state { core = core }

-- What holds for a client between calls: it frees no id of the server's range, no event destroys an
-- object that the server made, and for each such object some event makes objects of its interface.
-- (Because of the last, the second still holds with tables that extend the client's.)
pub record IsSound (core : Core) : Type 0 where
  pub frees_none : core.view.server.freed ≡ []
  pub lasting : NoEventEndsMade core.tables core.view
  pub by_some : EventsMakeMade core.tables core.view
