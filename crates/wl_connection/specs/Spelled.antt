-- Whole messages as spellings of their values.
use Rattle.std.specs.Prelude.{◌≡◌, ℕ, ◌<◌, List, ◌++◌, length, map, take, Some}
use Rattle.std.specs.List.{All}
use Rattle.std.specs.declared.result.Result.TheVariants.{Ok}
use Rattle.wl_wire.specs.declared.kind.Kind.{Kind}
use Rattle.wl_wire.specs.Word.{header_bytes}
use Rattle.wl_wire.specs.Argument.{Argument}
use Rattle.wl_sigs.specs.Side.{Side}
use Rattle.wl_sigs.specs.Tables.{MessageSignature}
use Rattle.wl_message.specs.Cut.{IsSize}
use Rattle.wl_object_map.specs.declared.object.Object.{Object}
use Rattle.wl_object_map.specs.Objects.{ObjectsAreSound, next_id}
use Rattle.wl_objects.specs.Reading.{forgiving_kind}
use Rattle.wl_objects.specs.Spelling.{SpellsAll}
use Rattle.wl_objects.specs.Writing.{Given, wired, message_bytes}
use Rattle.wl_objects.specs.Carried.{InRange}
use Rattle.wl_objects.specs.Messages.{checked, is_error, maker_by}
use Rattle.wl_connection.specs.Core.{Core}
use Rattle.wl_connection.specs.Receiving.{Found, found}

-- The bytes are a message for the object, with this opcode and values of these kinds: a header,
-- whose size is the number of bytes, at most the limit, and then the spellings of the values, in
-- order, with nothing left.
pub record MessageSpells (limit : ℕ) (kinds : List Kind) (object opcode : ℕ)
    (values : List Argument) (bytes : List ℕ) : Type 0 where
  pub arguments : List ℕ
  pub whole : bytes
      ≡ header_bytes (record { object = object; size = length bytes; opcode = opcode }) ++ arguments
  pub size : IsSize limit (length bytes)
  pub each : SpellsAll kinds values arguments

-- What a call writes after passing its checks is a spelling of its values: objects by their ids,
-- and the new one by the next id.
abbrev pub CallsSpell : Core → Side → Object → ℕ → List Given → MessageSignature → Type 0
CallsSpell core side target opcode given signature =
    ObjectsAreSound core.view
    → checked core.outbox.limit.bytes core.tables side core.view target opcode given
    ≡ Ok signature
    → All InRange given
    → MessageSpells core.outbox.limit.bytes signature.kinds target.id opcode
    (map (wired (next_id (maker_by side) core.view)) given)
    (message_bytes target.id opcode (map (wired (next_id (maker_by side) core.view)) given))

-- The kinds of a message that was found; the object of wl_display.error may be null.
abbrev pub kinds_of : Side → Found → List Kind
kinds_of side f =
    map (forgiving_kind (is_error side f.message.entry.iface f.opcode)) f.message.signature.kinds

-- What is found at the front of the waiting bytes is a spelling of its values.
abbrev pub FoundSpells : Core → Side → Found → Type 0
FoundSpells core side f =
    All (λ b. b < 256) core.inbox.bytes → found core side ≡ Ok (Some f)
    → MessageSpells core.inbox.limit.bytes (kinds_of side f) f.message.target.id f.opcode
    f.message.values (take f.size core.inbox.bytes)
