-- What both ends have: signature tables, objects, an inbox, an outbox, whether the end has failed,
-- and how many bytes it read.
use Rattle.std.specs.Prelude.{◌≡◌, ℕ, ◌+◌, ◌≤◌, Bool, true, false, ◌&&◌, min, List, if◌then◌else◌}
use Rattle.std.specs.Prelude.{Option, Some, option_map}
use Rattle.wl_wire.specs.declared.kind.Iface.{Iface}
use Rattle.wl_sigs.specs.Tables.{Interface}
use Rattle.wl_sigs.specs.Fixed.{display}
use Rattle.wl_message.specs.declared.amounts.Amounts.{Amounts}
use Rattle.wl_message.specs.declared.amounts.Sizes.{Sizes}
use Rattle.wl_message.specs.Arrived.{Arrived, nothing_arrived, free_bytes, free_tokens, fed}
use Rattle.wl_message.specs.Arrived.{fed_of_len, with_more, without_first}
use Rattle.wl_message.specs.Bounds.{max_queue_bytes}
use Rattle.wl_message.specs.Outgoing.{Outgoing, no_messages, waiting_bytes, waiting_tokens}
use Rattle.wl_message.specs.Outgoing.{after_taking}
use Rattle.wl_object_map.specs.declared.object.Object.{Object}
use Rattle.wl_object_map.specs.declared.object.Entry.{Entry}
use Rattle.wl_object_map.specs.declared.object.State.TheVariants.{Live}
use Rattle.wl_object_map.specs.Objects.{Objects, opening, look}
use Rattle.wl_objects.specs.Messages.{live_row}
use Rattle.wl_sigs.specs.Rules.{is_empty, has_server_objects}

pub record Core : Type 0 where
  pub tables : List Interface
  pub view : Objects
  pub inbox : Arrived
  pub outbox : Outgoing
  pub failed : Bool
  -- the bytes of all messages read so far; saturates at 2 ^ 64 - 1
  pub read : ℕ

-- the most globals that a server adds in its lifetime, and that a client remembers
abbrev pub max_globals : ℕ
max_globals = 1024

abbrev pub max_read : ℕ
max_read = 18446744073709551615

-- a new end: wl_display alone, and empty queues
abbrev pub new_core : List Interface → Sizes → Core
new_core tables sizes = record {
  tables = tables;
  view = opening display (has_server_objects tables);
  inbox = nothing_arrived sizes.in_bytes sizes.in_tokens sizes.limit;
  outbox = no_messages sizes.out_bytes sizes.out_tokens sizes.limit;
  failed = false;
  read = 0;
}

-- wl_display, the first object of each end
abbrev pub display_object : Object
display_object = record { id = 1; birth = 0 }

-- its row, which never changes
abbrev pub HasDisplay : Objects → Type 0
HasDisplay view =
    look view 1 ≡ Some (record { birth = 0; iface = display; version = 1; state = Live })

-- The outbox of an end that has not failed: no error event was added, and its size is one that an
-- end may have.
abbrev pub IsOrdinary : Outgoing → Type 0
IsOrdinary outbox =
    (outbox.has_error ≡ false) × (outbox.error_to ≡ 0) × (outbox.capacity ≤ max_queue_bytes)

abbrev pub kind_and_version : Entry → Iface × ℕ
kind_and_version entry = (entry.iface, entry.version)

-- the interface and version of a live object
abbrev pub live : Core → Object → Option (Iface × ℕ)
live core object = option_map kind_and_version (live_row core.view object)

abbrev pub no_room : Amounts
no_room = record { bytes = 0; tokens = 0 }

-- how much the inbox can take; a failed end takes nothing
abbrev pub in_room : Core → Amounts
in_room core =
    if core.failed then no_room
    else record { bytes = free_bytes core.inbox; tokens = free_tokens core.inbox }

-- how much of a piece is taken in
abbrev pub feeds : Core → List ℕ → List ℕ → Amounts
feeds core bytes tokens = if core.failed then no_room else fed core.inbox bytes tokens

-- how much of n bytes and of these tokens is taken in
abbrev pub feeds_len : Core → ℕ → List ℕ → Amounts
feeds_len core n tokens = if core.failed then no_room else fed_of_len core.inbox n tokens

-- the end after more has come in
abbrev pub with_arrived : Core → List ℕ → List ℕ → Core
with_arrived core bytes tokens = record core { inbox = with_more core.inbox bytes tokens }

-- the end after this number of bytes went out, with the tokens that go with them
abbrev pub with_gone : Core → ℕ → Core
with_gone core bytes = record core { outbox = after_taking core.outbox bytes }

-- nothing waits in either queue
abbrev pub is_drained : Core → Bool
is_drained core =
    (is_empty core.inbox.bytes && is_empty core.inbox.tokens)
    && (is_empty (waiting_bytes core.outbox) && is_empty (waiting_tokens core.outbox))

-- the end without the first message, which was read; these are its numbers of bytes and tokens
abbrev pub past : Core → ℕ → ℕ → Core
past core bytes tokens = record core {
  inbox = without_first core.inbox bytes tokens;
  read = min (core.read + bytes) max_read;
}

-- the end with its objects replaced
abbrev pub with_view : Core → Objects → Core
with_view core view = record core { view = view }

-- the end, failed
abbrev pub with_failure : Core → Core
with_failure core = record core { failed = true }
