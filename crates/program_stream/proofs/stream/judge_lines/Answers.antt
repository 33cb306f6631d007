use Rattle.std.proofs.Common.{◌+◌, subst, sym}
use Rattle.std.specs.Io.Buffered.{reader_remaining}
use Rattle.std.proofs.lemmas.Result.{IfErr-weaker}
use Rattle.wl_recording.proofs.TextLemmas.{refused_on}
use Rattle.wl_check.proofs.PrintedSoFar.{on_ok}
use Rattle.program_stream.specs.declared.error.StreamError.TheVariants.{CannotRead, Memory}
use Rattle.program_stream.proofs.Written.{JudgedSoFar, all_written, begun, cut_at_start, cut_here, cut_off, gone_on}
use Rattle.program_stream.proofs.Written.{had_reached, has_judged, stopped, untaken}
use Rattle.program_stream.proofs.stream.judge_lines.Goals.{then-prints_lines+then-not-contains+in_ok-write_text-in-Ok-true}
use Rattle.program_stream.proofs.stream.judge_lines.Goals.{else-prints_lines}
use Rattle.program_stream.proofs.stream.judge_lines.Goals as goal

-- there is no memory for the first line, or for the text
pub returns-in_err-clone-clause-stopped : goal.returns-in_err-clone-clause-stopped
returns-in_err-clone-clause-stopped g c = refused_on c.from_residual.result Memory _ _ c.from_residual.ensures.1
    (λ e h. h)
    (λ limit tables h. cut_at_start c.args.prints_lines limit tables _ _ Memory tt)

pub returns-in_err-clone-2-clause-stopped : goal.returns-in_err-clone-2-clause-stopped
returns-in_err-clone-2-clause-stopped g c =
    refused_on c.from_residual-in_err-clone-2.result Memory _ _ c.from_residual-in_err-clone-2.ensures.1
    (λ e h. h)
    (λ limit tables h. cut_at_start c.args.prints_lines limit tables _ _ Memory tt)

pub lines-init : goal.lines-init
lines-init g c limit tables h =
    subst (JudgedSoFar c.args.prints_lines limit tables _ _ 0 c.args.judge.now _ _) (sym c.new-text.ensures.items)
    (begun c.args.prints_lines limit tables _ c.args.judge.now _ h)

-- the lines of a line were not taken
pub returns-in_err-write_text-in-Ok-true-clause-stopped : goal.returns-in_err-write_text-in-Ok-true-clause-stopped
returns-in_err-write_text-in-Ok-true-clause-stopped g c =
    refused_on c.from_residual-in_err-write_text-in-Ok-true.result c.in_err-write_text-in-Ok-true.field-0.0 _ _
    c.from_residual-in_err-write_text-in-Ok-true.ensures.1 (λ e h. cc h)
    (λ limit tables h. let j = c.lines.invariant limit tables h in
    untaken c.args.prints_lines limit tables _ _ _ _ j.written c.judge_next-more.new.text.items
    c.in_err-write_text-in-Ok-true.field-0.0 c.in_err-write_text-in-Ok-true.ensures.why
    (gone_on c.args.prints_lines limit tables _ c.in-Ok-true.field-0 _ c.lines.number c.judge_next-more.new.judge
    j.written c.judge_next-more.new.text.items (c.in-Ok-true.ensures.judged c.args.prints_lines limit tables _ j.written j.to))
    j.appended c.write_text.ensures.front)

-- the stream has ended
pub returns-in-Ok-false-clause-judged : goal.returns-in-Ok-false-clause-judged
returns-in-Ok-false-clause-judged g c = on_ok c.write_text-in-Ok-false.result
    (λ now limit tables h. let j = c.lines.invariant limit tables h in
    has_judged c.args.prints_lines limit tables _ c.judge_next-more.new.judge _ _ _ j.written
    c.judge_next-more.new.text.items
    (rw c.in-Ok-false.field-0-test at (c.in-Ok-false.ensures.judged c.args.prints_lines limit tables _ j.written j.to)) j.appended now)
    c.write_text-in-Ok-false.ensures.written

pub returns-in-Ok-false-clause-stopped : goal.returns-in-Ok-false-clause-stopped
returns-in-Ok-false-clause-stopped g c = IfErr-weaker c.write_text-in-Ok-false.result _ _
    (λ why is limit tables h. let j = c.lines.invariant limit tables h in
    untaken c.args.prints_lines limit tables _ _ _ _ j.written c.judge_next-more.new.text.items why is
    (gone_on c.args.prints_lines limit tables _ c.in-Ok-false.field-0 _ c.lines.number c.judge_next-more.new.judge
    j.written c.judge_next-more.new.text.items (c.in-Ok-false.ensures.judged c.args.prints_lines limit tables _ j.written j.to))
    j.appended c.write_text-in-Ok-false.ensures.front)
    c.write_text-in-Ok-false.ensures.why

-- the stream cannot go on
pub returns-in_err-write_text-in-Err-clause-stopped : goal.returns-in_err-write_text-in-Err-clause-stopped
returns-in_err-write_text-in-Err-clause-stopped g c =
    refused_on c.from_residual-in_err-write_text-in-Err.result c.in_err-write_text-in-Err.field-0.0 _ _
    c.from_residual-in_err-write_text-in-Err.ensures.1 (λ e h. cc h)
    (λ limit tables h. let j = c.lines.invariant limit tables h in
    untaken c.args.prints_lines limit tables _ _ _ _ j.written c.judge_next-more.new.text.items
    c.in_err-write_text-in-Err.field-0.0 c.in_err-write_text-in-Err.ensures.why
    (stopped c.args.prints_lines limit tables _ c.in-Err.error j.written c.judge_next-more.new.text.items
    (c.in-Err.ensures.stopped c.args.prints_lines limit tables _ j.written j.to)) j.appended c.write_text-in-Err.ensures.front)

pub returns-in-Err-clause-stopped : goal.returns-in-Err-clause-stopped
returns-in-Err-clause-stopped g c limit tables h =
    let j = c.lines.invariant limit tables h in
    cut_off c.args.prints_lines limit tables _ _ _ _ j.written c.judge_next-more.new.text.items c.in-Err.error
    (c.in-Err.ensures.stopped c.args.prints_lines limit tables _ j.written j.to) j.appended c.in_ok-write_text-in-Err.ensures.written

-- one more line was judged
pub lines-preserved : goal.lines-preserved
lines-preserved g c limit tables h =
    let j = c.lines.invariant limit tables h in
    let next : JudgedSoFar c.args.prints_lines limit tables (reader_remaining g.R.Read.remaining c.args.reader.now)
    (reader_remaining g.R.Read.remaining c.judge_next-more.new.reader) (c.lines.number + 1)
    c.judge_next-more.new.judge (g.O.Write.contents c.args.out.now) (g.O.Write.contents c.lines.out)
    c.judge_next-more.new.text.items = record {
      written = j.written;
      to = rw c.in-Ok-true.field-0-test at (c.in-Ok-true.ensures.judged c.args.prints_lines limit tables _ j.written j.to);
      appended = j.appended;
    } in
    elim c.if-prints_lines.branch [
      | then-prints_lines+then-not-contains+in_ok-write_text-in-Ok-true w ↦ rw (w.out-is, w.text-is)
          (all_written c.args.prints_lines limit tables _ _ (c.lines.number + 1) c.judge_next-more.new.judge _ _ _
          c.judge_next-more.new.text.items w.write_text.new.text.items next
          w.in_ok-write_text-in-Ok-true.ensures.written w.in_ok-write_text-in-Ok-true.ensures.emptied)
      | else-prints_lines w ↦ rw (w.out-is, w.text-is) next
    ]

-- no more lines can be counted
pub returns-in_err-write_text-clause-stopped : goal.returns-in_err-write_text-clause-stopped
returns-in_err-write_text-clause-stopped g c =
    refused_on c.from_residual-in_err-write_text.result c.in_err-write_text.field-0.0 _ _
    c.from_residual-in_err-write_text.ensures.1 (λ e h. cc h)
    (λ limit tables h. let j = c.lines.invariant limit tables h in
    untaken c.args.prints_lines limit tables _ _ _ _ j.written c.lines.text.items c.in_err-write_text.field-0.0
    c.in_err-write_text.ensures.why
    (had_reached c.args.prints_lines limit tables _ _ c.lines.number c.lines.judge j.written c.lines.text.items
    j.to) j.appended c.write_text-2.ensures.front)

pub returns-clause-stopped : goal.returns-clause-stopped
returns-clause-stopped g c limit tables h =
    cut_here c.args.prints_lines limit tables _ _ c.lines.number c.lines.judge _ _ _ c.lines.text.items CannotRead
    tt (c.lines.invariant limit tables h) c.in_ok-write_text.ensures.written
