use Rattle.std.proofs.Common.{arith}
use Rattle.wl_message.proofs.PartedQueue.{bytes_wait}
use Rattle.wl_message.proofs.outbox.Outbox.room.Goals as goal

pub returns-clause-room : goal.returns-clause-room
returns-clause-room g c =
    rw (← c.self.view_is, bytes_wait _ c.self.invariant.kept) (omega (arith, c.len.ensures.len))

pub returns-clause-within : goal.returns-clause-within
returns-clause-within g c =
    rw (← c.self.view_is, bytes_wait _ c.self.invariant.kept)
    (omega (arith, c.len.ensures.len, c.self.invariant.kept.room, c.self.invariant.kept.error_order))
