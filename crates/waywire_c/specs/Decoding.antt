-- One message decoded by its signature, without knowledge of objects and tokens.
use Rattle.std.specs.Prelude.{◌≡◌, ◌≢◌, ℕ, ◌-◌, Bool, true, false, nat_eq, nat_lt, nat_le}
use Rattle.std.specs.Prelude.{if◌then◌else◌, List, [], ◌∷◌, ◌++◌, length, map, take, drop, Option}
use Rattle.std.specs.Prelude.{Some, None, option_and_then}
use Rattle.wl_wire.specs.declared.header.Header.{Header}
use Rattle.wl_wire.specs.declared.kind.Kind.{Kind}
use Rattle.wl_wire.specs.declared.kind.ArgFault.{ArgFault}
use Rattle.wl_wire.specs.Argument.{Argument, reshaped}
use Rattle.wl_wire.specs.Faults.{IsFirstFault}
use Rattle.wl_wire.specs.Word.{header_at}
use Rattle.wl_message.specs.Cut.{is_size}
use Rattle.wl_sigs.specs.Side.{Side}
use Rattle.wl_sigs.specs.Tables.{Interface, MessageSignature, interface_at, signature_at, max_args}
use Rattle.wl_object_map.specs.declared.object.Object.{Object}
use Rattle.wl_objects.specs.declared.argument.Named.{Named}
use Rattle.wl_objects.specs.declared.argument.Named.TheVariants as named_as
use Rattle.wl_objects.specs.declared.error.Fault.{Fault}
use Rattle.wl_objects.specs.declared.error.Fault.TheVariants as faults
use Rattle.wl_objects.specs.Reading.{Reported}
use Rattle.wl_objects.specs.Spelling.{SpellsAll}
use Rattle.waywire_c.specs.declared.values.ReportArg.{ReportArg}
use Rattle.waywire_c.specs.declared.decoding.Decoded.{Decoded}
use Rattle.waywire_c.specs.Messages.{side_of_sender}
use Rattle.waywire_c.specs.Reports.{TellsArgs}
use Rattle.waywire_c.specs.Statuses.{fault_place, fault_spelling, fault_status}

-- ---- arguments

abbrev pub bare_object : ℕ → Object
bare_object id = record { id = id; birth = 0 }

abbrev pub bare_named : ℕ → Named
bare_named id = if nat_eq id 0 then named_as.Null else named_as.Live (bare_object id)

-- an argument that bytes spell, as reported: objects by their ids alone, a descriptor as 0
abbrev pub bare_argument : Argument → Reported
bare_argument value = reshaped bare_named bare_object (λ _. 0) value

-- A body spells these values, one of each kind; or the values up to the first fault, and that
-- fault.
pub data Spelled (kinds : List Kind) (body : List ℕ) : List Argument → Option Fault → Type 0 where
  whole : {values : List Argument} → SpellsAll kinds values body → Spelled kinds body values None
  -- F7: bytes are left
  longer : {values : List Argument} {front : List ℕ} (behind : List ℕ)
      → SpellsAll kinds values front → behind ≢ [] → body ≡ front ++ behind
      → Spelled kinds body values (Some faults.TrailingBytes)
  -- F4: all arguments before it are spelled, and what follows does not begin with a spelling of its
  -- kind
  broken : {before : List Kind} {values : List Argument} {front : List ℕ} {fault : ArgFault}
      (kind : Kind) (after : List Kind) (behind : List ℕ)
      → kinds ≡ before ++ kind ∷ after → SpellsAll before values front
      → IsFirstFault kind behind fault → body ≡ front ++ behind
      → Spelled kinds body values (Some (faults.BadArgument (length before) fault))

-- These arguments are written to the first slots; the other slots stay.
pub record TellsSpelled (kinds : List Kind) (body : List ℕ) (count : ℕ) (fault : Option Fault)
    (before after : List ReportArg) : Type 0 where
  pub values : List Argument
  pub spelled : Spelled kinds body values fault
  pub count_is : count ≡ length values
  pub told : TellsArgs (map bare_argument values) before after

-- ---- the message

-- What is reported about a message, except its arguments and where its name lies.
pub record ToldMessage : Type 0 where
  pub target : ℕ
  pub opcode : ℕ
  pub size : ℕ
  pub name_length : ℕ
  pub arg_count : ℕ
  pub place : ℕ
  pub spelling : ℕ

abbrev pub decoded_by : Decoded → ToldMessage
decoded_by decoded = record {
  target = decoded.target;
  opcode = decoded.opcode;
  size = decoded.size;
  name_length = decoded.name_length;
  arg_count = decoded.arg_count;
  place = decoded.place;
  spelling = decoded.spelling;
}

abbrev pub no_message : ToldMessage
no_message = record {
  target = 0;
  opcode = 0;
  size = 0;
  name_length = 0;
  arg_count = 0;
  place = 0;
  spelling = 0;
}

abbrev pub of_header : Header → ToldMessage
of_header header = record no_message {
  target = header.object;
  opcode = header.opcode;
  size = header.size;
}

abbrev pub place_of_fault : Option Fault → ℕ
place_of_fault None = 0
place_of_fault (Some fault) = fault_place fault

abbrev pub spelling_of_fault : Option Fault → ℕ
spelling_of_fault None = 0
spelling_of_fault (Some fault) = fault_spelling fault

abbrev pub spelled_outcome : Option Fault → ℕ
spelled_outcome None = 0
spelled_outcome (Some fault) = fault_status fault

-- a message with this signature, of which this many arguments are reported
abbrev pub of_message : Header → MessageSignature → ℕ → Option Fault → ToldMessage
of_message header message count fault = record (of_header header) {
  name_length = length message.name;
  arg_count = count;
  place = place_of_fault fault;
  spelling = spelling_of_fault fault;
}

-- The status, and what is reported, if an interface has this message; or nothing.
pub record TellsBody (header : Header) (message : MessageSignature) (body : List ℕ) (status : ℕ)
    (told : ToldMessage) (before after : List ReportArg) : Type 0 where
  pub count : ℕ
  pub fault : Option Fault
  pub args : TellsSpelled message.kinds body count fault before after
  pub status_is : status ≡ spelled_outcome fault
  pub told_is : told ≡ of_message header message count fault

-- A refusal is reported, and no argument.
pub record TellsNone (wanted : ℕ) (wanted_told : ToldMessage) (status : ℕ) (told : ToldMessage)
    (before after : List ReportArg) : Type 0 where
  pub status_is : status ≡ wanted
  pub told_is : told ≡ wanted_told
  pub args : after ≡ before

-- F3
abbrev pub TellsKnown : Header → Option MessageSignature → List ℕ → ℕ → ToldMessage
    → List ReportArg → List ReportArg → Type 0
TellsKnown header None body = TellsNone 33 (of_header header)
TellsKnown header (Some message) body = TellsBody header message body

abbrev pub if_since : ℕ → MessageSignature → Option MessageSignature
if_since version message = if nat_le message.since version then Some message else None

-- the message of an interface with this opcode, if this version has it
abbrev pub message_since : List Interface → ℕ → ℕ → Side → ℕ → Option MessageSignature
message_since tables interface version side opcode =
    option_and_then (if_since version) (signature_at tables interface side opcode)

-- F1: whether all bytes of the header's size are there, and a message may have that size
abbrev pub TellsWhole : Bool → List Interface → ℕ → ℕ → Side → Header → List ℕ → ℕ → ToldMessage
    → List ReportArg → List ReportArg → Type 0
TellsWhole false tables interface version side header bytes = TellsNone 31 (of_header header)
TellsWhole true tables interface version side header bytes =
    TellsKnown header (message_since tables interface version side header.opcode)
    (take (header.size - 8) (drop 8 bytes))

abbrev pub TellsAtFront : Bool → List Interface → ℕ → ℕ → Side → List ℕ → ℕ → ToldMessage
    → List ReportArg → List ReportArg → Type 0
TellsAtFront true tables interface version side bytes = TellsNone 31 no_message
TellsAtFront false tables interface version side bytes =
    TellsWhole (is_size (length bytes) (header_at bytes).size) tables interface version side
    (header_at bytes) bytes

-- whose messages these are, and the interface they are for
abbrev pub TellsAsked : Option Side → Option Interface → List Interface → ℕ → ℕ → List ℕ
    → ToldMessage → ℕ → ToldMessage → List ReportArg → List ReportArg → Type 0
TellsAsked None asked tables interface version bytes told_before = TellsNone 62 told_before
TellsAsked (Some side) None tables interface version bytes told_before = TellsNone 64 told_before
TellsAsked (Some side) (Some i) tables interface version bytes told_before =
    TellsAtFront (nat_lt (length bytes) 8) tables interface version side bytes

-- which side a number means, if there is room for every argument that a message may have
abbrev pub side_with_room : ℕ → ℕ → Option Side
side_with_room room sender = if nat_lt room max_args then None else side_of_sender sender

-- What C learns about the message at the front of bytes.
abbrev pub TellsDecoded : List Interface → ℕ → ℕ → ℕ → List ℕ → ToldMessage → ℕ → ToldMessage
    → List ReportArg → List ReportArg → Type 0
TellsDecoded tables interface version sender bytes told_before status told before after =
    TellsAsked (side_with_room (length before) sender) (interface_at tables interface) tables
    interface version bytes told_before status told before after
