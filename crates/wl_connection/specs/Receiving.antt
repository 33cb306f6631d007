-- What an end finds at the front of its waiting bytes.
use Rattle.std.specs.Prelude.{ℕ, ◌%◌, ◌/◌, Bool, true, false, List, [], ◌∷◌, take, drop, length}
use Rattle.std.specs.Prelude.{Option, Some, None}
use Rattle.std.specs.declared.result.Result.{Result}
use Rattle.std.specs.declared.result.Result.TheVariants.{Ok, Err}
use Rattle.wl_wire.specs.declared.header.Header.{Header}
use Rattle.wl_wire.specs.Reading.{number_at}
use Rattle.wl_sigs.specs.Side.{Side}
use Rattle.wl_message.specs.Arrived.{in_front}
use Rattle.wl_message.specs.Cut.{Front, More, Bad, Whole}
use Rattle.wl_sigs.specs.Tables.{descriptors}
use Rattle.wl_objects.specs.declared.error.Fault.{Fault}
use Rattle.wl_objects.specs.declared.error.Fault.TheVariants as faults
use Rattle.wl_objects.specs.Reading.{Reader, Reported, reports_of}
use Rattle.wl_objects.specs.Messages.{Received, received, reader_of}
use Rattle.wl_connection.specs.Core.{Core, past}

-- the header in the first eight bytes
abbrev pub header_of : List ℕ → Header
header_of bytes = record {
  object = number_at bytes;
  size = number_at (drop 4 bytes) / 65536;
  opcode = number_at (drop 4 bytes) % 65536;
}

-- a message at the front: its length in bytes, its opcode, and what was read
pub record Found : Type 0 where
  pub size : ℕ
  pub opcode : ℕ
  pub message : Received

-- what an end knows when it reads messages of a side
abbrev pub reader_in : Core → Side → Reader
reader_in core side = reader_of core.tables side core.view

abbrev pub found_in : ℕ → ℕ → Result Received Fault → Result (Option Found) Fault
found_in size opcode (Ok message) =
    Ok (Some (record { size = size; opcode = opcode; message = message }))
found_in size opcode (Err fault) = Err fault

abbrev pub found_at : Core → Side → Front → Result (Option Found) Fault
found_at core side More = Ok None
found_at core side (Bad size) = Err faults.BadSize
found_at core side (Whole size) =
    found_in size (header_of core.inbox.bytes).opcode
    (received core.tables side (reader_in core side) (header_of core.inbox.bytes)
    (drop 8 (take size core.inbox.bytes)) (length core.inbox.tokens))

-- What is at the front of the waiting bytes: no whole message yet, a message, or a fault. Messages
-- of this side come in.
abbrev pub found : Core → Side → Result (Option Found) Fault
found core side = found_at core side (in_front core.inbox)

-- the arguments of a message of this side as reported: objects by the rows before the message,
-- descriptors by the first waiting tokens
abbrev pub reported : Core → Side → Received → List Reported
reported core side message = reports_of (reader_in core side) core.inbox.tokens message.values

-- how many tokens a message takes
abbrev pub takes : Received → ℕ
takes message = descriptors message.signature.kinds

-- the tokens that a message takes
abbrev pub own_tokens : Core → Received → List ℕ
own_tokens core message = take (takes message) core.inbox.tokens

-- the end after the first message was removed
abbrev pub past_found : Core → Found → Core
past_found core f = past core f.size (takes f.message)

abbrev pub is_empty_list : {X : Type 0} → List X → Bool
is_empty_list [] = true
is_empty_list (x ∷ xs) = false
