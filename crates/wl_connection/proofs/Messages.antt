-- An end writes whole messages; the room that they leave.
use Rattle.std.proofs.Common.{◌≡◌, ℕ, ◌+◌, ◌<◌, ◌≤◌, true, List, [], ◌∷◌, ◌++◌, length, sym, ap, arith, length-append}
use Rattle.std.proofs.lemmas.Bool.Decides.{nat_tests}
use Rattle.std.proofs.lemmas.Grind.{common_steps}
use Rattle.wl_wire.specs.Argument.{Argument}
use Rattle.wl_message.specs.declared.limit.Limit.{Limit}
use Rattle.wl_message.specs.Cut.{IsMessage}
use Rattle.wl_message.specs.Outgoing.{Outgoing, all_bytes, queued, room_of, with_message}
use Rattle.wl_message.proofs.Cuts.{headed}
use Rattle.wl_message.proofs.TakenInStep.{bytes_append}
use Rattle.wl_objects.specs.Writing.{message_len, message_bytes, spelled}
use Rattle.wl_objects.proofs.Calls.{len-least}
use Rattle.wl_objects.proofs.Wholes.{length-message, message-words}
use Rattle.wl_connection.specs.Sending.{fits}

pub whole_within : (limit : Limit) (object opcode : ℕ) (values : List Argument) → opcode < 65536
    → message_len values ≤ limit.bytes → IsMessage limit.bytes (message_bytes object opcode values)
whole_within limit object opcode values o h =
    let least : 8 ≤ message_len values = len-least values in
    headed limit.bytes (record { object = object; size = message_len values; opcode = opcode }) (spelled values)
    (sym (length-message object opcode values)) (omega (arith, h, limit.in_range.1)) (omega arith)
    (record { header = least; words = message-words values; within = h })

-- every limit allows 4096 bytes
pub whole : (limit : Limit) (object opcode : ℕ) (values : List Argument) → opcode < 65536 → message_len values ≤ 4096
    → IsMessage limit.bytes (message_bytes object opcode values)
whole limit object opcode values o h = whole_within limit object opcode values o (omega (arith, h, limit.in_range.0))

-- what fits is no more than the room
pub fits-bytes : (o : Outgoing) (bytes tokens : ℕ) → fits o bytes tokens ≡ true → bytes ≤ room_of o
fits-bytes o bytes tokens h = grind (arith, common_steps, nat_tests, h)

-- a message that fits with more bytes also fits alone, and leaves room for them
pub fits-less : (o : Outgoing) (bytes more tokens : ℕ) → fits o (bytes + more) tokens ≡ true
    → fits o bytes tokens ≡ true
fits-less o bytes more tokens h = grind (arith, common_steps, nat_tests, h)

room-left : (o : Outgoing) (bytes tokens : List ℕ) (more : ℕ) → length bytes + more ≤ room_of o
    → more ≤ room_of (with_message o bytes tokens)
room-left o bytes tokens more h =
    omega (
      arith,
      ap length (bytes_append o.messages (queued bytes tokens ∷ [])),
      length-append (all_bytes o.messages) (all_bytes (queued bytes tokens ∷ [])),
      length-append bytes [],
      length-append o.left (all_bytes o.messages),
      length-append o.left (all_bytes (o.messages ++ queued bytes tokens ∷ [])),
    )

pub fits-after : (o : Outgoing) (bytes tokens : List ℕ) (more : ℕ) → fits o (length bytes + more) (length tokens) ≡ true
    → fits (with_message o bytes tokens) more 0 ≡ true
fits-after o bytes tokens more h =
    let a : length bytes + more ≤ room_of o = grind (arith, common_steps, nat_tests, h) in
    let r : more ≤ room_of (with_message o bytes tokens) = room-left o bytes tokens more a in
    grind (arith, common_steps, nat_tests, r)
