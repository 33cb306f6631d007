-- How far the globals have been announced to the registries, event by event.
use Rattle.std.specs.Prelude.{◌≡◌, ℕ, ◌≤◌, ◌<◌, Bool, List, [], ◌∷◌, ◌++◌, length, map}
use Rattle.std.specs.Bool.{MatchBool}
use Rattle.wl_message.specs.Outgoing.{room_of}
use Rattle.wl_object_map.specs.declared.object.Object.{Object}
use Rattle.wl_objects.specs.Writing.{message_len}
use Rattle.wl_connection.specs.Core.{Core}
use Rattle.wl_connection.specs.Sending.{with_sent}
use Rattle.wl_server.specs.declared.announce.Announced.{Announced}
use Rattle.wl_server.specs.State.{Registry}
use Rattle.wl_server.specs.Announcing.{Due, Owing, due_len, owed_opcode, values_of, with_dues}
use Rattle.wl_server.specs.Announcing.{all_marked}

-- these events, for this registry
abbrev pub dues_for : Object → List Owing → List Due
dues_for object list = map (λ owing. record { object = object; owing = owing }) list

-- This number of the owed events is written and marked, and these are left.
pub record Progress (core : Core) (registries : List Registry) (all : List Due) (count : ℕ)
    (now : Core) (marked : List Registry) (rest : List Due) : Type 0 where
  pub done : List Due
  pub whole : all ≡ done ++ rest
  pub number : length done ≡ count
  pub written : now ≡ with_dues core done
  pub marks : marked ≡ all_marked done registries
  pub fit : due_len core.tables done ≤ room_of core.outbox

-- an event for the registry with this id was written if it fits; else nothing was
abbrev pub IsWritten : Core → ℕ → Owing → Bool → Core → Type 0
IsWritten core registry owing written now = MatchBool written
    ((message_len (values_of core.tables owing) ≤ room_of core.outbox)
    × (now ≡ with_sent core registry (owed_opcode owing) (values_of core.tables owing) []))
    ((room_of core.outbox < message_len (values_of core.tables owing)) × (now ≡ core))

-- the first of these events does not fit
abbrev pub IsBlocked : Core → List Due → Type 0
IsBlocked core [] = ⊥
IsBlocked core (due ∷ dues) = room_of core.outbox < message_len (values_of core.tables due.owing)

-- All that was owed is written, or as much as fits.
pub record IsAnnounced (core : Core) (registries : List Registry) (all : List Due)
    (told : Announced)
    (now : Core) (marked : List Registry) : Type 0 where
  pub rest : List Due
  pub progress : Progress core registries all told.count now marked rest
  pub end : MatchBool told.all (rest ≡ []) (IsBlocked now rest)
