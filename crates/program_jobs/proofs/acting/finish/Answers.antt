use Rattle.std.proofs.Common.{ℕ, List, rules, refl, subst}
use Rattle.std.specs.Io.KnownBytes.{Appends}
use Rattle.program_jobs.specs.Output.{IsHinted, printed, refused, not_taken}
use Rattle.program_stream.specs.Writing.{AppendsFront}
use Rattle.program_jobs.proofs.acting.finish.Goals as goal

-- the output was written whole
pub returns-in-Ok-write_through-clause-acted : goal.returns-in-Ok-write_through-clause-acted
returns-in-Ok-write_through-clause-acted g c = λ job sources known done refuses.
    let written = subst (λ (bytes : List ℕ). Appends (g.O.Write.contents c.args.writers.now.out)
    (g.O.Write.contents c.write_through.new.out) bytes) c.deref.ensures.value
    c.in-Ok-write_through.ensures.whole in
    let hinted = subst (λ (hint : List ℕ). IsHinted g.E.Write.contents hint c.args.writers.now.err c.say.new.err)
    c.deref-in-Ok-write_through.ensures.value c.say.ensures in
    printed c.in-Ok.output.text.items c.in-Ok.output.hint.items (rw c.in-Ok.is at done) written hinted

-- the output was complete, and was not taken whole
pub returns-in-Ok-clause-acted : goal.returns-in-Ok-clause-acted
returns-in-Ok-clause-acted g c = λ job sources known done refuses.
    let front = subst (λ (bytes : List ℕ). AppendsFront (g.O.Write.contents c.args.writers.now.out)
    (g.O.Write.contents c.write_through.new.out) bytes) c.deref.ensures.value c.write_through.ensures.front in
    not_taken c.in-Ok.output.text.items c.in-Ok.output.hint.items c.in-Ok.output.status (search rules)
    (rw c.in-Ok.is at done) front c.report.ensures.said

-- there is no output
pub returns-clause-acted : goal.returns-clause-acted
returns-clause-acted g c = λ job sources known done refuses. refused c.in-Err.failure (search rules)
    (rw c.in-Err.is at refuses) refl c.report-in-Err.ensures.said
