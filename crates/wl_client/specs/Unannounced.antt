-- What `bind_unannounced`, which ignores what was announced, returns and writes.
use Rattle.std.specs.Prelude.{◌≡◌, ℕ, ◌<◌, ◌≤◌, ◌^◌, not, if◌then◌else◌, List, [], Option, Some}
use Rattle.std.specs.Prelude.{None, option_map}
use Rattle.std.specs.Option.{option_and_then}
use Rattle.std.specs.declared.result.Result.{Result}
use Rattle.std.specs.declared.result.Result.TheVariants.{Ok, Err}
use Rattle.wl_sigs.specs.Side.TheVariants.{Request}
use Rattle.wl_sigs.specs.Tables.{Interface, MessageSignature, interface_at, place_of, signature_at}
use Rattle.wl_sigs.specs.Valid.{Valid}
use Rattle.wl_message.specs.Cut.{usual_limit}
use Rattle.wl_sigs.specs.Fixed.{registry}
use Rattle.wl_object_map.specs.declared.object.Object.{Object}
use Rattle.wl_object_map.specs.declared.object.Entry.{Entry}
use Rattle.wl_objects.specs.declared.error.SendError.{SendError}
use Rattle.wl_objects.specs.declared.error.SendError.TheVariants as refusals
use Rattle.wl_object_map.specs.declared.object.Maker.TheVariants.{Client}
use Rattle.wl_object_map.specs.Objects.{ObjectsAreSound, next_id, opened_at}
use Rattle.wl_objects.specs.Writing.{bind_values, message_bytes, message_len}
use Rattle.wl_objects.specs.Messages.{NewObject, live_row, same_iface}
use Rattle.wl_connection.specs.Core.{with_view}
use Rattle.wl_connection.specs.Sending.{fits, with_sent, opening_answer}
use Rattle.wl_connection.specs.Spelled.{MessageSpells}
use Rattle.wl_client.specs.State.{State, Global}
use Rattle.wl_client.specs.Calls.{can_bind, iface_or}

-- the global with this name and interface, at the version that the tables have
abbrev pub any_global : List Interface → ℕ → List ℕ → Option Global
any_global tables name iface =
    option_and_then (λ place. option_map
    (λ i. record { name = name; iface = place; version = i.version })
    (interface_at tables place.0)) (place_of tables iface)

abbrev pub version_or : Option Global → ℕ
version_or None = 1
version_or (Some global) = global.version

-- the object that the bind makes, at the next id, with the version of the tables
abbrev pub unannounced_object : State → ℕ → List ℕ → NewObject
unannounced_object state name iface = record {
  id = next_id Client state.core.view;
  iface = iface_or (any_global state.core.tables name iface);
  version = version_or (any_global state.core.tables name iface);
}

abbrev pub unannounced_at : State → ℕ → List ℕ → ℕ → Option Entry → Result (Option Object) SendError
unannounced_at state name iface version None = Err refusals.Stale
unannounced_at state name iface version (Some entry) =
    if not (same_iface entry.iface registry) then Err refusals.NoSuchMessage
    else if not (can_bind state.core.tables iface version (any_global state.core.tables name iface))
    then Err refusals.BadBind
    else if fits state.core.outbox (message_len (bind_values name iface version 0)) 0
    then opening_answer state.core Client (Some (unannounced_object state name iface))
    else Err refusals.Full

-- What `bind_unannounced` returns, if no memory is needed: S1, S2, S3, S7, S9, S10; else the new
-- object.
abbrev pub unannounced_answer : State → Object → ℕ → List ℕ → ℕ → Result (Option Object) SendError
unannounced_answer state target name iface version =
    if state.core.failed then Err refusals.Failed
    else unannounced_at state name iface version (live_row state.core.view target)

-- The client after `bind_unannounced` returned Ok: the message has the version that was asked for.
abbrev pub after_unannounced : State → Object → ℕ → List ℕ → ℕ → State
after_unannounced state target name iface version = record state {
  core =
      with_view (with_sent state.core target.id 0
      (bind_values name iface version (next_id Client state.core.view)) [])
      (opened_at state.core.view (next_id Client state.core.view)
      (unannounced_object state name iface).iface (unannounced_object state name iface).version);
}

-- The tables have an interface with this name, and it has this version.
pub record HasVersion (tables : List Interface) (iface : List ℕ) (version : ℕ) : Type 0 where
  pub place : ℕ
  pub interface : Interface
  pub at : interface_at tables place ≡ Some interface
  pub named : interface.name ≡ iface
  pub some : 1 ≤ version
  pub known : version ≤ interface.version

-- What an accepted `bind_unannounced` writes is a spelling of its values by the tables' signature;
-- the new object has the next id.
abbrev pub UnannouncedSpells : State → Object → ℕ → List ℕ → ℕ → Type 0
UnannouncedSpells state target name iface version =
    Valid state.core.tables → ObjectsAreSound state.core.view → name < 2 ^ 32 → version < 2 ^ 32
    → (new : Option Object) → unannounced_answer state target name iface version ≡ Ok new
    → (signature : MessageSignature) → signature_at state.core.tables 1 Request 0 ≡ Some signature
    → MessageSpells usual_limit signature.kinds target.id 0
    (bind_values name iface version (next_id Client state.core.view))
    (message_bytes target.id 0 (bind_values name iface version (next_id Client state.core.view)))

-- The object that it makes has the interface of this name, at the version of the tables, which is
-- at least the version that the message has.
pub record IsOfNamed (state : State) (name : ℕ) (iface : List ℕ) (version : ℕ) : Type 0 where
  pub interface : Interface
  pub at : interface_at state.core.tables (unannounced_object state name iface).iface.0
      ≡ Some interface
  pub named : interface.name ≡ iface
  pub version_is : (unannounced_object state name iface).version ≡ interface.version
  pub some : 1 ≤ version
  pub known : version ≤ interface.version
