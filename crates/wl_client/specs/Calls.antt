-- What a client's bind of a global returns and writes.
use Rattle.std.specs.Prelude.{ℕ, Bool, false, ◌&&◌, not, nat_le, bytes_eq, if◌then◌else◌, List, []}
use Rattle.std.specs.Prelude.{Option, Some, None}
use Rattle.std.specs.declared.result.Result.{Result}
use Rattle.std.specs.declared.result.Result.TheVariants.{Err}
use Rattle.wl_wire.specs.declared.kind.Iface.{Iface}
use Rattle.wl_sigs.specs.Tables.{Interface, interface_at}
use Rattle.wl_sigs.specs.Fixed.{registry}
use Rattle.wl_object_map.specs.declared.object.Object.{Object}
use Rattle.wl_object_map.specs.declared.object.Entry.{Entry}
use Rattle.wl_objects.specs.declared.error.SendError.{SendError}
use Rattle.wl_objects.specs.declared.error.SendError.TheVariants as refusals
use Rattle.wl_object_map.specs.declared.object.Maker.TheVariants.{Client}
use Rattle.wl_object_map.specs.Objects.{next_id, opened_at}
use Rattle.wl_objects.specs.Writing.{bind_values, message_len}
use Rattle.wl_objects.specs.Messages.{NewObject, live_row, same_iface}
use Rattle.wl_connection.specs.Core.{with_view}
use Rattle.wl_connection.specs.Sending.{fits, with_sent, opening_answer}
use Rattle.wl_client.specs.State.{State, Global, global_of}

abbrev pub version_fits : ℕ → ℕ → Option Interface → List ℕ → Bool
version_fits version advertised None name = false
version_fits version advertised (Some i) name =
    bytes_eq i.name name
    && (nat_le 1 version && (nat_le version advertised && nat_le version i.version))

-- whether a remembered global has this interface, and was advertised with at least this version,
-- which the tables have
abbrev pub can_bind : List Interface → List ℕ → ℕ → Option Global → Bool
can_bind tables iface version None = false
can_bind tables iface version (Some global) =
    version_fits version global.version (interface_at tables global.iface.0) iface

abbrev pub iface_or : Option Global → Iface
iface_or None = registry
iface_or (Some global) = global.iface

-- the object that a bind makes, at the next id
abbrev pub bound_object : State → ℕ → ℕ → NewObject
bound_object state name version = record {
  id = next_id Client state.core.view;
  iface = iface_or (global_of state.globals name);
  version = version;
}

abbrev pub bind_at : State → ℕ → List ℕ → ℕ → Option Entry → Result (Option Object) SendError
bind_at state name iface version None = Err refusals.Stale
bind_at state name iface version (Some entry) =
    if not (same_iface entry.iface registry) then Err refusals.NoSuchMessage
    else if not (can_bind state.core.tables iface version (global_of state.globals name))
    then Err refusals.BadBind
    else if fits state.core.outbox (message_len (bind_values name iface version 0)) 0
    then opening_answer state.core Client (Some (bound_object state name version))
    else Err refusals.Full

-- What `bind` returns, if no memory is needed: S1, S2, S3, S7, S9, S10; else the new object.
abbrev pub bind_answer : State → Object → ℕ → List ℕ → ℕ → Result (Option Object) SendError
bind_answer state target name iface version =
    if state.core.failed then Err refusals.Failed
    else bind_at state name iface version (live_row state.core.view target)

-- The client after `bind` returned Ok.
abbrev pub after_bind : State → Object → ℕ → List ℕ → ℕ → State
after_bind state target name iface version = record state {
  core =
      with_view (with_sent state.core target.id 0
      (bind_values name iface version (next_id Client state.core.view)) [])
      (opened_at state.core.view (next_id Client state.core.view)
      (bound_object state name version).iface version);
}
