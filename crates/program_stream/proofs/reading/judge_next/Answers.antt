use Rattle.std.proofs.Common.{◌∙◌, ◌+◌, ℕ, List, ap, inl, inr, refl, rules, subst, sym}
use Rattle.std.specs.Io.BufRead.{ends_with_byte}
use Rattle.std.specs.Str.Lines.{lines}
use Rattle.wl_recording.specs.Text.{IsFirstBad}
use Rattle.wl_recording.proofs.TextLemmas.{refused_on}
use Rattle.program_stream.specs.declared.error.StreamError.TheVariants.{BadLine, Memory}
use Rattle.program_stream.specs.Streams.{IsStopped}
use Rattle.program_stream.proofs.Judged.{bad_next, ended_before, goes_on, stopped_here}
use Rattle.program_stream.proofs.ReadLines.{none_in, one_line, some_in}
use Rattle.program_stream.proofs.reading.judge_next.Goals as goal

-- reading failed
pub returns-in_err-read_line-clause-stopped : goal.returns-in_err-read_line-clause-stopped
returns-in_err-read_line-clause-stopped g c =
    refused_on c.from_residual.result c.in_err-read_line.field-0.0 _ _ c.from_residual.ensures.1 (λ e h. cc h)
    (λ prints_lines limit tables known written r. stopped_here prints_lines limit tables known _ c.args.number
    c.args.judge.now written c.args.text.now.items r c.in_err-read_line.field-0.0
    c.in_err-read_line.ensures.why)

-- no line was left
pub returns-then-is_empty-clause-judged : goal.returns-then-is_empty-clause-judged
returns-then-is_empty-clause-judged g c prints_lines limit tables known written r =
    ended_before prints_lines limit tables known _ c.args.number c.args.judge.now written
    c.args.text.now.items r _ _ c.in_ok-read_line.ensures.read
    (none_in c.read_line.new.line.items _ _ c.is_empty.ensures (search rules) c.if-is_empty.true)

-- a line was judged
pub returns-in-Ok-clause-judged : goal.returns-in-Ok-clause-judged
returns-in-Ok-clause-judged g c prints_lines limit tables known written r =
    let some = some_in c.read_line.new.line.items _ _ c.is_empty.ensures (search rules) c.if-is_empty.false in
    let read = c.in_ok-read_line.ensures.read in
    let one = one_line c.read_line.new.line.items some read.stops in
    goes_on prints_lines limit tables known _ c.args.number c.args.judge.now written
    c.args.text.now.items r _ c.read_line.new.line.items read some c.judge_line.new.judge
    c.judge_line.new.text.items c.is_ended.result
    (ap (ends_with_byte 10) (sym c.deref-in-Ok.ensures.value) ∙ sym c.is_ended.ensures)
    (c.in-Ok.ensures.judged prints_lines limit tables r.pieces one.line (ap lines c.deref.ensures.value ∙ one.alone) r.passed)

-- the line is bad
pub returns-in-Err-BadLine-clause-stopped : goal.returns-in-Err-BadLine-clause-stopped
returns-in-Err-BadLine-clause-stopped g c prints_lines limit tables known written r =
    let some = some_in c.read_line.new.line.items _ _ c.is_empty.ensures (search rules) c.if-is_empty.false in
    subst (IsStopped prints_lines limit tables known (BadLine (c.args.number + 1)) written)
    (sym c.in-Err-BadLine.ensures.err) (elim c.in-Err-BadLine.ensures.bad [
      | inl e ↦ absurd (cc (e, c.in-Err-BadLine.field-0-is))
      | inr b ↦ bad_next prints_lines limit tables known _ c.args.number c.args.judge.now written
          c.args.text.now.items r _ c.read_line.new.line.items c.in_ok-read_line.ensures.read some b.0
          (c.args.number + 1) (subst (λ (l : List ℕ). IsFirstBad l b.0) c.deref.ensures.value b.2) refl
    ])

-- there is no memory for the line
pub returns-in-Err-Memory-clause-stopped : goal.returns-in-Err-Memory-clause-stopped
returns-in-Err-Memory-clause-stopped g c prints_lines limit tables known written r =
    subst (IsStopped prints_lines limit tables known Memory written) (sym c.in-Err-Memory.ensures.err)
    (stopped_here prints_lines limit tables known _ c.args.number c.args.judge.now written
    c.args.text.now.items r Memory tt)
