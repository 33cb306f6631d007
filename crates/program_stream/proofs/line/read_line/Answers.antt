use Rattle.std.proofs.Common.{ℕ, List, ap, drop, length, subst}
use Rattle.std.specs.Io.{StopsAt}
use Rattle.std.specs.Io.KnownBytes.{Consumes}
use Rattle.program_stream.proofs.ReadLines.{last_line}
use Rattle.program_stream.proofs.line.read_line.Goals as goal

pub returns-in-Ok-clause-read : goal.returns-in-Ok-clause-read
returns-in-Ok-clause-read g c =
    let all = ap (λ (l : List ℕ). drop (length l) c.read_until.new.buf.items) c.clear.ensures.items in
    record {
      consumed = subst (Consumes _ _) all c.in-Ok.ensures.none_lost;
      stops = subst (λ (l : List ℕ). StopsAt l 10) all c.in-Ok.ensures.stops;
      last = last_line _ _ c.read_until.new.buf.items c.clear.ensures.items c.in-Ok.ensures.bytes;
    }
