use Rattle.std.proofs.Common.{◌≤◌, length, take}
use Rattle.std.specs.Io.KnownBytes.{Appends}
use Rattle.program_stream.proofs.writing.write_whole.Given as goal

-- the bytes that the writer took so far were appended
abbrev pub invariant-writes : goal.invariant-writes
invariant-writes g l = (l.at ≤ length l.bytes) × Appends (g.O.Write.contents l.fn.out) (g.O.Write.contents l.out)
    (take l.at l.bytes)
