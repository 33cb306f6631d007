-- What C learns about a message of the tables.
use Rattle.std.specs.Prelude.{◌≡◌, ℕ, Bool, false, nat_eq, if◌then◌else◌, List, length, slice_get}
use Rattle.std.specs.Prelude.{Option, Some, None, option_and_then}
use Rattle.wl_wire.specs.declared.kind.Iface.{Iface}
use Rattle.wl_wire.specs.declared.kind.Kind.{Kind}
use Rattle.wl_wire.specs.declared.kind.Kind.TheVariants as kinds
use Rattle.wl_sigs.specs.Side.{Side}
use Rattle.wl_sigs.specs.Side.TheVariants.{Request, Event}
use Rattle.wl_sigs.specs.Destroys.{Destroys}
use Rattle.wl_sigs.specs.Destroys.TheVariants.{Nothing, Target, Arg}
use Rattle.wl_sigs.specs.Tables.{Interface, MessageSignature, signature_at}
use Rattle.waywire_c.specs.declared.messages.CMessage.{CMessage}
use Rattle.waywire_c.specs.declared.messages.CKind.{CKind}

-- which side a number means: 0 the client's requests, 1 the server's events
abbrev pub side_of_sender : ℕ → Option Side
side_of_sender sender =
    if nat_eq sender 0 then Some Request else (if nat_eq sender 1 then Some Event else None)

abbrev pub message_on : List Interface → ℕ → ℕ → Option Side → Option MessageSignature
message_on tables interface opcode None = None
message_on tables interface opcode (Some side) = signature_at tables interface side opcode

-- the message of an interface that a sender writes with this opcode
abbrev pub message_at : List Interface → ℕ → ℕ → ℕ → Option MessageSignature
message_at tables interface sender opcode = message_on tables interface opcode
    (side_of_sender sender)

abbrev pub kind_in : ℕ → MessageSignature → Option Kind
kind_in place message = slice_get message.kinds place

abbrev pub kind_of_argument : List Interface → ℕ → ℕ → ℕ → ℕ → Option Kind
kind_of_argument tables interface sender opcode place =
    option_and_then (kind_in place) (message_at tables interface sender opcode)

-- what a message destroys: 0 nothing, 1 its target, 2 the object that the argument at an index
-- names
abbrev pub destroys_number : Destroys → ℕ
destroys_number Nothing = 0
destroys_number Target = 1
destroys_number (Arg place) = 2

abbrev pub destroyed_place : Destroys → ℕ
destroyed_place (Arg place) = place
destroyed_place _ = 0

-- A message is reported.
pub record TellsMessage (message : MessageSignature) (told : CMessage) (len : ℕ) : Type 0 where
  pub name : len ≡ length message.name
  pub since : told.since ≡ message.since
  pub destroys : told.destroys ≡ destroys_number message.destroys
  pub destroyed : told.destroyed ≡ destroyed_place message.destroys
  pub arg_count : told.arg_count ≡ length message.kinds

-- the number of a kind, whether it may be null, and the interface that it requires
abbrev pub kind_number : Kind → ℕ
kind_number kinds.Int = 1
kind_number kinds.Uint = 2
kind_number kinds.Fixed = 3
kind_number (kinds.Str null) = 4
kind_number (kinds.Obj null iface) = 6
kind_number (kinds.New iface) = 8
kind_number (kinds.NewByServer iface) = 13
kind_number kinds.Array = 9
kind_number kinds.Fd = 10

abbrev pub may_be_null : Kind → Bool
may_be_null (kinds.Str null) = null
may_be_null (kinds.Obj null iface) = null
may_be_null _ = false

abbrev pub asked_of : Kind → Option Iface
asked_of (kinds.Obj null iface) = iface
asked_of (kinds.New iface) = iface
asked_of (kinds.NewByServer iface) = Some iface
asked_of _ = None

-- the index of an interface, or 65,535, which no interface has, for any
abbrev pub place_or_any : Option Iface → ℕ
place_or_any None = 65535
place_or_any (Some iface) = iface.0

-- A kind is reported.
pub record TellsKind (kind : Kind) (told : CKind) : Type 0 where
  pub number : told.kind ≡ kind_number kind
  pub nullable : told.nullable ≡ may_be_null kind
  pub interface : told.interface ≡ place_or_any (asked_of kind)
