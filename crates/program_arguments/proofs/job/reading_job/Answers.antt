use Rattle.std.proofs.Common.{refl}
use Rattle.program_arguments.proofs.job.reading_job.Goals as goal

pub returns-then-is_streamed : goal.returns-then-is_streamed
returns-then-is_streamed c = rw c.if-is_streamed.true refl

pub returns-then-prints_lines : goal.returns-then-prints_lines
returns-then-prints_lines c = rw (c.if-is_streamed.false, c.if-prints_lines.true) refl

pub returns-else-prints_lines : goal.returns-else-prints_lines
returns-else-prints_lines c = rw (c.if-is_streamed.false, c.if-prints_lines.false) refl
