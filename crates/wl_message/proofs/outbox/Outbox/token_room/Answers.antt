use Rattle.std.proofs.Common.{arith}
use Rattle.wl_message.proofs.PartedQueue.{tokens_wait}
use Rattle.wl_message.proofs.outbox.Outbox.token_room.Goals as goal

pub returns-clause-room : goal.returns-clause-room
returns-clause-room g c =
    rw (← c.self.view_is, tokens_wait _ c.self.invariant.kept)
    (omega (arith, c.len.ensures.len, c.capacity.ensures.capacity))

pub returns-clause-within : goal.returns-clause-within
returns-clause-within g c =
    rw (← c.self.view_is, tokens_wait _ c.self.invariant.kept)
    (omega (arith, c.len.ensures.len, c.capacity.ensures.capacity, c.self.invariant.kept.token_room))
