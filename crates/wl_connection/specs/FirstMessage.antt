-- The first message at an end: it is read, its arguments are parsed, and the end's role gives it a
-- meaning.
use Rattle.std.specs.Prelude.{◌≡◌, ◌⊎◌, ℕ, List, take, drop, Option, Some, None}
use Rattle.std.specs.declared.result.Result.{Result}
use Rattle.std.specs.declared.result.Result.TheVariants.{Ok, Err}
use Rattle.wl_wire.specs.declared.header.Header.{Header}
use Rattle.wl_sigs.specs.Side.{Side}
use Rattle.wl_sigs.specs.Tables.{Interface, descriptors}
use Rattle.wl_sigs.specs.Valid.{Valid}
use Rattle.wl_message.specs.Arrived.{in_front}
use Rattle.wl_message.specs.Cut.{Whole}
use Rattle.wl_object_map.specs.Objects.{Objects}
use Rattle.wl_objects.specs.declared.error.Fault.{Fault}
use Rattle.wl_objects.specs.declared.parsed.ParsedArg.{ParsedArg}
use Rattle.wl_objects.specs.declared.reading.Received.{Received as Read}
use Rattle.wl_objects.specs.Messages.{Received, is_error, received, reader_of}
use Rattle.wl_objects.specs.Parsed.{AreParsed}
use Rattle.wl_objects.specs.Seen.{received_of}
use Rattle.wl_connection.specs.Core.{Core, HasDisplay}
use Rattle.wl_connection.specs.Receiving.{Found, found, reader_in}

-- a message with this header
abbrev pub headed : Header → Received → Found
headed header m = record { size = header.size; opcode = header.opcode; message = m }

-- the body of the first message
abbrev pub body_of : Core → ℕ → List ℕ
body_of core size = drop 8 (take size core.inbox.bytes)

-- A message of this side with this header was read, given these tables and objects: nothing is
-- wrong with it, and its arguments are parsed.
pub record IsWellFormed (side : Side) (tables : List Interface) (view : Objects) (header : Header)
    (message : Read) : Type 0 where
  pub valid : Valid tables
  pub display : HasDisplay view
  pub waiting : ℕ
  pub is_read : received tables side (reader_of tables side view) header message.body.now waiting
      ≡ Ok (received_of message)
  pub parsed : AreParsed (reader_of tables side view) message.body.now message.args.now
      (received_of message).values
  pub tokens : message.tokens ≡ descriptors message.signature.now.kinds
  pub error : message.is_error ≡ is_error side message.entry.iface header.opcode

-- The result for a message, given what its reader returned: the reader's fault, or what the message
-- means (`means`), which may be a fault too.
abbrev pub IsMeaningOf : {P : Type 0} → Side
    → (List Interface → Objects → List ℕ → List ParsedArg → Found → Result P Fault → Type 0)
    → List Interface → Objects → Header → List ℕ → List ParsedArg → Result Received Fault
    → Result P Fault → Type 0
IsMeaningOf side means tables view header body args (Err fault) result = result ≡ Err fault
IsMeaningOf side means tables view header body args (Ok m) result =
    Valid tables × AreParsed (reader_of tables side view) body args m.values
    × means tables view body args (headed header m) result

-- The first message is found, and these are its arguments, parsed.
pub record HasParsed (side : Side) (core : Core) (args : List ParsedArg) (f : Found) : Type 0 where
  pub is_found : found core side ≡ Ok (Some f)
  pub whole : in_front core.inbox ≡ Whole f.size
  pub parsed : AreParsed (reader_in core side) (body_of core f.size) args f.message.values
  pub valid : Valid core.tables

-- The result for the first message at an end: none if it is not whole; else what it means, with its
-- arguments parsed, or a fault: its own, or one that is its meaning.
abbrev pub IsFrontMeaning : {P : Type 0} → Side
    → (List Interface → Objects → List ℕ → List ParsedArg → Found → Result P Fault → Type 0)
    → Core → List ParsedArg → Result (Option P) Fault → Type 0
IsFrontMeaning side means core args (Ok None) = found core side ≡ Ok None
IsFrontMeaning side means core args (Ok (Some pending)) =
    (f : Found) × HasParsed side core args f
    × means core.tables core.view (body_of core f.size) args f (Ok pending)
IsFrontMeaning side means core args (Err fault) =
    (found core side ≡ Err fault)
    ⊎ ((f : Found) × HasParsed side core args f
    × means core.tables core.view (body_of core f.size) args f (Err fault))
