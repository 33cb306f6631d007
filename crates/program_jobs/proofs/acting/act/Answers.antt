use Rattle.std.proofs.Common.{List, ℕ, Global, String, map, subst, sym}
use Rattle.std.specs.Prelude.{string_bytes}
use Rattle.program_arguments.specs.declared.job.Job.{Job}
use Rattle.program_jobs.specs.Output.{Acted, StreamedBy}
use Rattle.program_jobs.specs.Texts.{sources_of}
use Rattle.program_jobs.proofs.StreamEnds.{acts, fails_at_bad}
use Rattle.program_jobs.proofs.acting.act.Goals as goal

-- a stream is judged while it is read
pub returns-in-Stream-clause-acted : goal.returns-in-Stream-clause-acted
returns-in-Stream-clause-acted g c =
    let sources = sources_of g.T.Read.remaining c.args.tables.items in
    let known = g.R.Read.remaining c.args.file.now in
    let named = subst (λ (names : List (String Global)). StreamedBy g.O.Write.contents g.E.Write.contents
    c.in-Stream.prints_lines c.in-Stream.limit.bytes (map string_bytes names) c.as_str.result.now sources known
    c.args.writers.now.out c.judge.new.writers.out c.args.writers.now.err c.judge.new.writers.err c.judge.result)
    c.as_slice.ensures.value c.judge.ensures.streamed in
    let is = subst (λ (name : List ℕ). StreamedBy g.O.Write.contents g.E.Write.contents
    c.in-Stream.prints_lines c.in-Stream.limit.bytes (map string_bytes c.in-Stream.names.items) name sources known
    c.args.writers.now.out c.judge.new.writers.out c.args.writers.now.err c.judge.new.writers.err c.judge.result)
    c.as_str.ensures.value named in
    subst (λ (job : Job). Acted g.O.Write.contents g.E.Write.contents job sources known c.args.writers.now.out
    c.judge.new.writers.out c.args.writers.now.err c.judge.new.writers.err c.judge.result) (sym c.in-Stream.is)
    (acts g.O.Write.contents g.E.Write.contents c.in-Stream.prints_lines c.in-Stream.names c.in-Stream.limit
    c.in-Stream.name sources known _ _ _ _ _ is)

pub returns-clause-acted : goal.returns-clause-acted
returns-clause-acted g c = c.finish.ensures.acted c.args.job.now (sources_of g.T.Read.remaining c.args.tables.items)
    (g.R.Read.remaining c.args.file.now) c.output.ensures.done c.output.ensures.refused

-- with a bad line there is no output
pub returns-clause-bad : goal.returns-clause-bad
returns-clause-bad g c = λ text n known bad reads. c.finish.ensures.refused
    (c.output.ensures.bad text n known bad reads)

-- a stream fails at a bad line
pub returns-in-Stream-clause-bad_stream : goal.returns-in-Stream-clause-bad_stream
returns-in-Stream-clause-bad_stream g c = λ text n known bad streams.
    fails_at_bad g.O.Write.contents g.E.Write.contents c.in-Stream.prints_lines c.in-Stream.limit.bytes _ _ _ text
    _ _ _ _ _ n (rw known at c.judge.ensures.streamed) bad
