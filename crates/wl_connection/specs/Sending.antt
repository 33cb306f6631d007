-- What an end writes.
use Rattle.std.specs.Prelude.{◌≡◌, ◌≢◌, ℕ, ◌+◌, Bool, true, false, ◌||◌, nat_lt, if◌then◌else◌}
use Rattle.std.specs.Prelude.{List, [], ◌∷◌, length, map, Option, Some, None, is_some, option_map}
use Rattle.std.specs.declared.result.Result.{Result}
use Rattle.std.specs.declared.result.Result.TheVariants.{Ok, Err}
use Rattle.wl_wire.specs.Argument.{Argument, Uint, Str, Obj}
use Rattle.wl_sigs.specs.Side.{Side}
use Rattle.wl_sigs.specs.Side.TheVariants.{Request, Event}
use Rattle.wl_sigs.specs.Destroys.{Destroys}
use Rattle.wl_sigs.specs.Tables.{MessageSignature, destroys_one, makes}
use Rattle.wl_message.specs.Outgoing.{Outgoing, room_of, token_room_of, with_message, with_error}
use Rattle.wl_object_map.specs.declared.object.Object.{Object}
use Rattle.wl_object_map.specs.declared.object.Entry.{Entry}
use Rattle.wl_objects.specs.declared.argument.Arg.{Arg}
use Rattle.wl_objects.specs.declared.error.SendError.{SendError}
use Rattle.wl_objects.specs.declared.error.SendError.TheVariants as refusals
use Rattle.wl_wire.specs.declared.kind.Iface.{Iface}
use Rattle.wl_object_map.specs.declared.object.Maker.{Maker}
use Rattle.wl_object_map.specs.Objects.{Objects, look, next_id, next_birth, can_open}
use Rattle.wl_objects.specs.Writing.{Given, wired, message_len, message_bytes, tokens_of}
use Rattle.wl_objects.specs.Messages.{NewObject, made, maker_by, checked, after}
use Rattle.wl_objects.specs.Messages.{ended_id, numbers_called}
use Rattle.wl_connection.specs.Core.{Core, with_view}
use Rattle.wl_connection.specs.Outcomes.{AnswersOrMemory}

-- whether this number of bytes and tokens is free in the outbox
abbrev pub fits : Outgoing → ℕ → ℕ → Bool
fits outbox bytes tokens =
    if nat_lt (room_of outbox) bytes || nat_lt (token_room_of outbox) tokens then false else true

-- the end after a message was added to its outbox
abbrev pub with_sent : Core → ℕ → ℕ → List Argument → List ℕ → Core
with_sent core object opcode values tokens = record core {
  outbox = with_message core.outbox (message_bytes object opcode values) tokens;
}

-- wl_display.delete_id added, and its length in bytes
abbrev pub with_delete_id : Core → ℕ → Core
with_delete_id core id = with_sent core 1 1 (Uint id ∷ []) []

abbrev pub delete_id_len : ℕ
delete_id_len = 12

-- the longest text of an error in bytes
abbrev pub max_error_text : ℕ
max_error_text = 127

-- wl_display.error added, in the room reserved for it; the end has failed
abbrev pub with_error_event : Core → ℕ → ℕ → List ℕ → Core
with_error_event core object code text = record core {
  outbox = with_error core.outbox
      (message_bytes 1 0 (Obj object ∷ Uint code ∷ Str (Some text) ∷ []));
  failed = true;
}

-- the object of this interface and version that a maker opens next; none if the call makes none
abbrev pub next_object : Maker → Objects → ℕ → Option Iface → Option NewObject
next_object maker view version iface =
    option_map (λ i. record { id = next_id maker view; iface = i; version = version }) iface

-- the object that a call makes, at the maker's next id
abbrev pub made_by_call : Core → Maker → ℕ → MessageSignature → List Given → Option NewObject
made_by_call core maker version signature given =
    made core.tables version signature.kinds (map (wired (next_id maker core.view)) given)

-- what a call with room returns, given what it makes: the maker's new object, or S10 if none can be
-- opened
abbrev pub opening_answer : Core → Maker → Option NewObject → Result (Option Object) SendError
opening_answer core maker None = Ok None
opening_answer core maker (Some m) =
    if can_open maker core.view
    then Ok (Some (record { id = next_id maker core.view; birth = next_birth maker core.view }))
    else Err refusals.NoIds

-- the delete_id that immediately follows a destroying event
abbrev pub following : Side → Destroys → Bool
following Request what = false
following Event what = destroys_one what

abbrev pub following_len : Side → Destroys → ℕ
following_len side what = if following side what then delete_id_len else 0

abbrev pub version_at : Option Entry → ℕ
version_at None = 0
version_at (Some entry) = entry.version

-- the object that a call of this side makes for this target
abbrev pub made_at : Core → Side → Object → MessageSignature → List Given → Option NewObject
made_at core side target signature given =
    made_by_call core (maker_by side) (version_at (look core.view target.id)) signature given

abbrev pub answer_of : Core → Side → Object → List Given → Result MessageSignature SendError
    → Result (Option Object) SendError
answer_of core side target given (Err refusal) = Err refusal
answer_of core side target given (Ok signature) =
    if fits core.outbox (message_len (map (wired 0) given) + following_len side signature.destroys)
    (length (tokens_of given))
    then opening_answer core (maker_by side) (made_at core side target signature given)
    else Err refusals.Full

-- What `send` returns at the end that writes this side, if no memory is needed: S1; S2, S3, S4, S5,
-- S6, S8; S9; S10; else the new object, if the message makes one.
abbrev pub send_answer : Core → Side → Object → ℕ → List Given → Result (Option Object) SendError
send_answer core side target opcode given =
    if core.failed then Err refusals.Failed
    else answer_of core side target given
    (checked core.outbox.limit.bytes core.tables side core.view target opcode given)

abbrev pub with_following : Bool → ℕ → Core → Core
with_following true id core = with_delete_id core id
with_following false id core = core

abbrev pub sent : Core → Side → Object → ℕ → List Given → MessageSignature → Core
sent core side target opcode given signature =
    let id = ended_id signature.destroys target.id (map (wired 0) given) in
    with_following (following side signature.destroys) id
    (with_view
    (with_sent core target.id opcode (map (wired (next_id (maker_by side) core.view)) given)
    (tokens_of given))
    (after side core.view (made_at core side target signature given) signature.destroys id))

abbrev pub after_checked : Core → Side → Object → ℕ → List Given
    → Result MessageSignature SendError → Core
after_checked core side target opcode given (Err refusal) = core
after_checked core side target opcode given (Ok signature) =
    sent core side target opcode given signature

-- The end after `send` returned Ok: its outbox ends with the message in its canonical spelling,
-- followed by the delete_id of an object that it destroyed at the server; and the objects are as
-- the message leaves them.
abbrev pub after_send : Core → Side → Object → ℕ → List Given → Core
after_send core side target opcode given =
    after_checked core side target opcode given
    (checked core.outbox.limit.bytes core.tables side core.view target opcode given)

-- whether a call opens an object
abbrev pub opens_object : Result MessageSignature SendError → Bool
opens_object (Err refusal) = false
opens_object (Ok signature) = is_some (makes signature)

-- What a call that opens no object returns: no object if it is accepted, and neither S10 nor S11,
-- the refusals of an opening.
abbrev pub OpensNothing : Result (Option Object) SendError → Type 0
OpensNothing (Ok new) = new ≡ None
OpensNothing (Err why) = (why ≢ refusals.NoIds) × (why ≢ refusals.Memory)

-- What `send` returns if memory can be refused: the same, except that a message that opens an
-- object may be refused for lack of memory instead of being accepted.
abbrev pub IsSendAnswer : Core → Side → Object → ℕ → List Given → Result (Option Object) SendError
    → Type 0
IsSendAnswer core side target opcode given result =
    AnswersOrMemory refusals.Memory
    (opens_object
    (checked core.outbox.limit.bytes core.tables side core.view target opcode given))
    (send_answer core side target opcode given) result

-- the arguments that words are for the message that a call names
abbrev pub numbers_of : Core → Side → Object → ℕ → List ℕ → List Arg
numbers_of core side target opcode words =
    numbers_called core.tables side core.view target opcode words

-- the result of a call that makes no object, as that of a call that may make one
abbrev pub made_nothing : {X E : Type 0} → Result X E → Result (Option Object) E
made_nothing (Ok x) = Ok None
made_nothing (Err why) = Err why
