use Rattle.program_jobs.specs.Texts.{AreRead, named_texts, sources_of}
use Rattle.program_jobs.proofs.tables.read_all.Given as goal

-- the files read so far
abbrev pub invariant-files : goal.invariant-files
invariant-files g l = AreRead (sources_of g.T.Read.remaining l.yielded) (named_texts l.texts.items)
