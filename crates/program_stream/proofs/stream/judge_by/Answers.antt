use Rattle.std.proofs.Common.{◌≡◌, ℕ, List, Option, subst}
use Rattle.wl_check.specs.Session.{IsVerdictOf, session_of}
use Rattle.wl_recording.proofs.TextLemmas.{refused_on}
use Rattle.program_stream.specs.declared.error.StreamError.TheVariants.{Memory}
use Rattle.program_stream.specs.Streams.{IsCutShort, IsWhole}
use Rattle.program_stream.proofs.Written.{cut_at_start, fresh_reader}
use Rattle.program_stream.proofs.stream.judge_by.Goals as goal

-- there is no memory for the reader
pub returns-in_err-clone-clause-stopped : goal.returns-in_err-clone-clause-stopped
returns-in_err-clone-clause-stopped g c = refused_on c.from_residual.result Memory _ _ c.from_residual.ensures.1
    (λ e h. h) (λ limit tables h. cut_at_start c.args.prints_lines limit tables _ _ Memory tt)

pub returns-clause-stopped : goal.returns-clause-stopped
returns-clause-stopped g c limit tables h =
    cut_at_start c.args.prints_lines limit tables _ _ c.read_error.result c.read_error.ensures

-- the stream cannot go on
pub returns-in_err-judge_lines-in-Ok-clause-stopped : goal.returns-in_err-judge_lines-in-Ok-clause-stopped
returns-in_err-judge_lines-in-Ok-clause-stopped g c =
    refused_on c.from_residual-in_err-judge_lines-in-Ok.result c.in_err-judge_lines-in-Ok.field-0.0 _ _
    c.from_residual-in_err-judge_lines-in-Ok.ensures.1 (λ e h. cc h)
    (λ limit tables h. subst
    (λ (known : Option (List ℕ)). IsCutShort c.args.prints_lines limit tables known
    (g.O.Write.contents c.args.out.now) (g.O.Write.contents c.judge_lines.new.out) c.in_err-judge_lines-in-Ok.field-0.0)
    (fresh_reader (λ r. g.R.Read.remaining r.now) c.in-Ok.reader _ c.in-Ok.ensures.inner c.in-Ok.ensures.empty
    c.in-Ok.ensures.capacity) (c.in_err-judge_lines-in-Ok.ensures.stopped limit tables h))

-- all was judged
pub returns-in-Some-clause-judged : goal.returns-in-Some-clause-judged
returns-in-Some-clause-judged g c limit tables h =
    let j = c.in_ok-judge_lines-in-Ok.ensures.judged limit tables h in
    let v = c.verdict.ensures c.args.prints_lines limit tables j.pieces j.passed in
    let same : v.0 ≡ c.in-Some.verdict = cc (v.1, c.in-Some.is) in
    record {
      text = j.text;
      whole = subst (λ (known : Option (List ℕ)). IsWhole known j.text)
          (fresh_reader (λ r. g.R.Read.remaining r.now) c.in-Ok.reader _ c.in-Ok.ensures.inner
          c.in-Ok.ensures.empty c.in-Ok.ensures.capacity) j.whole;
      pieces = j.pieces;
      recorded = j.recorded;
      answers = subst (IsVerdictOf tables (session_of limit j.pieces)) same v.2;
      written = j.written;
    }

pub returns-in-Ok-clause-stopped : goal.returns-in-Ok-clause-stopped
returns-in-Ok-clause-stopped g c limit tables h =
    let j = c.in_ok-judge_lines-in-Ok.ensures.judged limit tables h in
    let v = c.verdict.ensures c.args.prints_lines limit tables j.pieces j.passed in
    absurd (cc (v.1, c.in-None.is))
