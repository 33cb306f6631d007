-- What a server's other calls return and write.
use Rattle.std.specs.Prelude.{◌≡◌, ℕ, ◌+◌, ◌-◌, Bool, true, false, ◌&&◌, ◌||◌, not, nat_eq, nat_lt}
use Rattle.std.specs.Prelude.{nat_le, if◌then◌else◌, List, [], ◌∷◌, ◌++◌, length, slice_set, Option}
use Rattle.std.specs.Prelude.{Some, None, is_some, min}
use Rattle.std.specs.List.{list_any}
use Rattle.std.specs.declared.result.Result.{Result}
use Rattle.std.specs.declared.result.Result.TheVariants.{Ok, Err}
use Rattle.wl_wire.specs.declared.kind.Iface.{Iface}
use Rattle.wl_sigs.specs.Tables.{Interface, interface_at}
use Rattle.wl_sigs.specs.Rules.{is_ended_by_event}
use Rattle.wl_sigs.specs.Fixed.{display, registry}
use Rattle.wl_object_map.specs.declared.object.Object.{Object}
use Rattle.wl_object_map.specs.declared.object.Entry.{Entry}
use Rattle.wl_objects.specs.declared.error.SendError.{SendError}
use Rattle.wl_objects.specs.declared.error.SendError.TheVariants as refusals
use Rattle.wl_object_map.specs.Ranges.{is_of_server}
use Rattle.wl_object_map.specs.Objects.{closed}
use Rattle.wl_objects.specs.Messages.{live_row, same_iface}
use Rattle.wl_connection.specs.Core.{Core, with_view}
use Rattle.wl_connection.specs.Sending.{fits, with_delete_id, delete_id_len, with_error_event}
use Rattle.wl_connection.specs.Sending.{with_following, max_error_text}
use Rattle.wl_server.specs.declared.globals.GlobalError.{GlobalError}
use Rattle.wl_server.specs.declared.globals.GlobalError.TheVariants as global_errors
use Rattle.wl_server.specs.State.{State, Global, global_of, most_globals}

-- ---- ending an object without an event

-- a refusal, or none
abbrev pub drop_at : Core → Option Entry → Option SendError
drop_at core None = Some refusals.Stale
drop_at core (Some entry) =
    if not (is_ended_by_event (interface_at core.tables entry.iface.0))
    then Some refusals.NotDroppable
    else if fits core.outbox delete_id_len 0 then None else Some refusals.Full

-- Why `drop_object` is refused: S1, S2, S12, S9.
abbrev pub drop_refusal : Core → Object → Option SendError
drop_refusal core object =
    if core.failed then Some refusals.Failed else drop_at core (live_row core.view object)

-- an object that the server made is live, and the end has not failed
pub record IsLiveOfServer (core : Core) (object : Object) : Type 0 where
  pub not_failed : core.failed ≡ false
  pub made_by_server : is_of_server object.id ≡ true
  pub is_live : is_some (live_row core.view object) ≡ true

-- The end after `drop_object`: delete_id is written, and the object is closed.
abbrev pub after_drop : Core → Object → Core
after_drop core object = with_view (with_delete_id core object.id) (closed core.view object.id)

-- ---- ending an object when the caller says so

-- whether ending this object writes its delete_id: the client made it
abbrev pub is_told_end : Object → Bool
is_told_end object = not (is_of_server object.id)

-- wl_display and the registries are never ended by this call
abbrev pub is_kept : Object → Entry → Bool
is_kept object entry =
    nat_eq object.id 1 || (same_iface entry.iface display || same_iface entry.iface registry)

-- a refusal, or none
abbrev pub end_at : Core → Object → Option Entry → Option SendError
end_at core object None = Some refusals.Stale
end_at core object (Some entry) =
    if is_kept object entry then Some refusals.NotDroppable
    else if is_told_end object && not (fits core.outbox delete_id_len 0) then Some refusals.Full
    else None

-- Why `end_object` is refused: S1, S2, S12, S9.
abbrev pub end_refusal : Core → Object → Option SendError
end_refusal core object =
    if core.failed then Some refusals.Failed else end_at core object (live_row core.view object)

-- The end after `end_object`: the object is closed, and its delete_id written if the client made
-- it.
abbrev pub after_end : Core → Object → Core
after_end core object =
    with_following (is_told_end object) object.id (with_view core (closed core.view object.id))

-- ---- an error by the compositor

abbrev pub is_error_text : List ℕ → Bool
is_error_text text = nat_le (length text) max_error_text && not (list_any (λ b. nat_eq b 0) text)

abbrev pub error_at : List ℕ → Option Entry → Option SendError
error_at text None = Some refusals.Stale
error_at text (Some entry) = if is_error_text text then None else Some (refusals.WrongArgs 2)

-- Why `post_error` is refused: S1, S2, S5(2).
abbrev pub error_refusal : Core → Object → List ℕ → Option SendError
error_refusal core object text =
    if core.failed then Some refusals.Failed else error_at text (live_row core.view object)

-- The end after `post_error`: its outbox ends with the event, and the end has failed.
abbrev pub after_error : Core → Object → ℕ → List ℕ → Core
after_error core object code text = with_error_event core object.id code text

-- ---- globals

abbrev pub version_in : ℕ → Option Interface → Bool
version_in version None = false
version_in version (Some i) = nat_le 1 version && nat_le version i.version

-- what can be advertised: any interface of the tables except wl_display and wl_registry, at one of
-- its versions
abbrev pub can_be_global : List Interface → Iface → ℕ → Bool
can_be_global tables iface version =
    not (same_iface iface display || same_iface iface registry)
    && version_in version (interface_at tables iface.0)

-- the server with one more global, under the next name
abbrev pub with_global : State → Iface → ℕ → State
with_global state iface version = record state {
  globals = state.globals ++ record { iface = iface; version = version; present = true } ∷ [];
}

abbrev pub next_name : State → ℕ
next_name state = length state.globals + 1

-- whether a name has a global that is not withdrawn
abbrev pub is_present : Option Global → Bool
is_present None = false
is_present (Some global) = global.present

abbrev pub withdrawn : Global → Global
withdrawn global = record global { present = false }

abbrev pub without_at : List Global → ℕ → Option Global → List Global
without_at globals name None = globals
without_at globals name (Some global) = slice_set globals (name - 1) (withdrawn global)

-- the server after a name was withdrawn
abbrev pub after_withdraw : State → ℕ → State
after_withdraw state name = record state {
  globals = without_at state.globals name (global_of state.globals name);
}

-- how many globals a server may add in its life
abbrev pub globals_allowed : State → ℕ
globals_allowed state = min state.allowed most_globals

-- the server that may add this many instead
abbrev pub with_allowed : State → ℕ → State
with_allowed state number = record state { allowed = number }

-- Why `add_global` is refused, if no memory is needed: G1, G2, G3.
abbrev pub add_refusal : State → Iface → ℕ → Option GlobalError
add_refusal state iface version =
    if state.core.failed then Some global_errors.Failed
    else if not (can_be_global state.core.tables iface version) then Some global_errors.BadGlobal
    else if nat_lt (length state.globals) (globals_allowed state) then None
    else Some global_errors.TooMany

-- Why `withdraw` is refused: G1, G5.
abbrev pub withdraw_refusal : State → ℕ → Option GlobalError
withdraw_refusal state name =
    if state.core.failed then Some global_errors.Failed
    else if is_present (global_of state.globals name) then None else Some global_errors.NoSuchGlobal

-- a result, unless it is refused
abbrev pub ok_unless_refused : {X E : Type 0} → Option E → X → Result X E
ok_unless_refused None x = Ok x
ok_unless_refused (Some why) x = Err why

-- What `add_global` returns, if no memory is needed: the name, or why it is refused.
abbrev pub add_answer : State → Iface → ℕ → Result ℕ GlobalError
add_answer state iface version =
    ok_unless_refused (add_refusal state iface version) (next_name state)
