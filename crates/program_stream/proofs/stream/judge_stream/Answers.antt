use Rattle.wl_recording.proofs.TextLemmas.{refused_on}
use Rattle.program_stream.specs.declared.error.StreamError.TheVariants.{Memory}
use Rattle.program_stream.proofs.Written.{cut_at_start}
use Rattle.program_stream.proofs.stream.judge_stream.Goals as goal

-- there is no memory for the judge
pub returns-in_err-clone-clause-stopped : goal.returns-in_err-clone-clause-stopped
returns-in_err-clone-clause-stopped g c = refused_on c.from_residual.result Memory _ _ c.from_residual.ensures.1
    (λ e h. h) (cut_at_start c.args.prints_lines c.args.limit.bytes c.args.tables.now _ _ Memory tt)

pub returns-in_err-judge-clause-stopped : goal.returns-in_err-judge-clause-stopped
returns-in_err-judge-clause-stopped g c =
    refused_on c.from_residual-in_err-judge.result Memory _ _ c.from_residual-in_err-judge.ensures.1
    (λ e h. h) (cut_at_start c.args.prints_lines c.args.limit.bytes c.args.tables.now _ _ Memory tt)
