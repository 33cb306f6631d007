-- The conditions for a message that an end writes.
use Rattle.std.proofs.Common.{ℕ, ◌≤◌, length, subst}
use Rattle.wl_message.specs.declared.limit.Limit.{Limit}
use Rattle.wl_message.specs.Cut.{IsMessage}
use Rattle.wl_objects.specs.declared.writing.CallMessage.{CallMessage}
use Rattle.wl_objects.specs.Writing.{CallFits, call_message, on_wire}
use Rattle.wl_objects.proofs.Written.{call_len}
use Rattle.wl_connection.proofs.Messages.{whole_within}

pub written_whole : (limit : Limit) (call : CallMessage) → CallFits call → call.len ≤ limit.bytes
    → IsMessage limit.bytes (call_message call)
written_whole limit call fits short =
    whole_within limit call.object call.opcode (on_wire call.new_id call.args.now) fits.opcode
    (subst (λ (n : ℕ). n ≤ limit.bytes) fits.len short)

pub written_within : (room : ℕ) (call : CallMessage) → CallFits call → call.len ≤ room
    → length (call_message call) ≤ room
written_within room call fits within = subst (λ (n : ℕ). n ≤ room) (call_len call fits) within
