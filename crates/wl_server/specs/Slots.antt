-- How a server stores its open registries.
use Rattle.std.specs.Prelude.{◌≡◌, ℕ, suc, ◌≤◌, max, List, [], ◌∷◌, length, map, take}
use Rattle.std.specs.List.{filter}
use Rattle.wl_connection.specs.Core.{Core}
use Rattle.wl_connection.specs.ServerRange.{EventsMakeMade, NoEventEndsMade}
use Rattle.wl_server.specs.declared.registry.RegistrySlot.{RegistrySlot}
use Rattle.wl_server.specs.State.{Global, Registry, most_globals}
use Rattle.wl_server.specs.Announcing.{owed_in}
use Rattle.wl_server.specs.Registries.{HasRegistries}

-- The open registries; how many of the first ones are known to be owed nothing; a number above the
-- births of all registries that were kept; for how many more there is room; and how many closed
-- ones still take room.
pub record KeptRegistries : Type 0 where
  pub list : List Registry
  pub settled : ℕ
  pub past : ℕ
  pub room : ℕ
  pub closed : ℕ

-- the registries of the open slots
abbrev pub open_in : List RegistrySlot → List Registry
open_in slots = map (λ slot. slot.registry) (filter (λ slot. slot.is_open) slots)

-- the slots' births rise, starting at a number or above
abbrev pub SlotsRise : ℕ → List RegistrySlot → Type 0
SlotsRise low [] = Unit {0}
SlotsRise low (slot ∷ slots) =
    (low ≤ slot.registry.object.birth) × SlotsRise (suc slot.registry.object.birth) slots

-- the least number above their births
abbrev pub past_of : List RegistrySlot → ℕ
past_of [] = 0
past_of (slot ∷ slots) = max (suc slot.registry.object.birth) (past_of slots)

-- the registries that are known to be owed nothing
abbrev pub settled_in : KeptRegistries → List Registry
settled_in kept = take kept.settled kept.list

-- if nothing was owed to the settled registries before, nothing is owed to those after
abbrev pub KeepsSettled : KeptRegistries → KeptRegistries → Type 0
KeepsSettled before after = (globals : List Global) → owed_in globals (settled_in before) ≡ []
    → owed_in globals (settled_in after) ≡ []

-- What holds for a server between calls. (Because of the last, `lasting` still holds with tables
-- that extend the server's.)
pub record IsSound (core : Core) (globals : List Global) (kept : KeptRegistries) : Type 0 where
  pub few : length globals ≤ most_globals
  pub registries : HasRegistries core.view kept.list
  pub past : kept.past ≤ core.view.client.births
  pub settled : owed_in globals (settled_in kept) ≡ []
  -- no event destroys any object that the server made
  pub lasting : NoEventEndsMade core.tables core.view
  -- some event makes objects of the interface of each such object
  pub by_some : EventsMakeMade core.tables core.view
