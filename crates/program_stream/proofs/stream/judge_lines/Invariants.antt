use Rattle.std.proofs.Common.{ℕ, [], List}
use Rattle.std.specs.Io.Buffered.{reader_remaining}
use Rattle.wl_sigs.specs.Tables.{Interface}
use Rattle.wl_check.specs.LinesJudged.{HasJudgedLines}
use Rattle.program_stream.proofs.Written.{JudgedSoFar}
use Rattle.program_stream.proofs.stream.judge_lines.Given as goal

-- the lines so far were judged, and all but what waits in the text was written
abbrev pub invariant-lines : goal.invariant-lines
invariant-lines g l = (limit : ℕ) (tables : List Interface) → HasJudgedLines l.prints_lines limit tables [] l.fn.judge
    → JudgedSoFar l.prints_lines limit tables (reader_remaining g.R.Read.remaining l.fn.reader)
    (reader_remaining g.R.Read.remaining l.reader) l.number l.judge (g.O.Write.contents l.fn.out)
    (g.O.Write.contents l.out) l.text.items
