use Rattle.program_socket.proofs.Turns.{Written}
use Rattle.program_socket.proofs.turn.flush_all.Given as goal

-- what was written so far
abbrev pub invariant-tries : goal.invariant-tries
invariant-tries g l = Written g.E.End.core g.E.End.with_core l.fn.end (g.W.Write.contents l.fn.writer) l.count l.end
    (g.W.Write.contents l.writer)

-- every round except the last uses up a retry
abbrev pub decreases-tries : goal.decreases-tries
decreases-tries g l = l.retries
