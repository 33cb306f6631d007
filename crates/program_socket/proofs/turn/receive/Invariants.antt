use Rattle.std.proofs.Common.{◌-◌, ◌+◌, ◌≤◌, length}
use Rattle.std.specs.Io.KnownBytes.{Consumes}
use Rattle.program_socket.proofs.turn.receive.Given as goal

-- the reader returned what was read so far
abbrev pub invariant-reads : goal.invariant-reads
invariant-reads g l = record {
  within : length l.bytes.items ≤ l.count;
  given : Consumes (g.R.Read.remaining l.fn.reader) (g.R.Read.remaining l.reader) l.bytes.items;
}

-- every round except the last reads a byte or uses up a retry
abbrev pub decreases-reads : goal.decreases-reads
decreases-reads g l = l.count - length l.bytes.items + l.retries
