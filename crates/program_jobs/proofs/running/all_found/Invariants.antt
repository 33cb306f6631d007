use Rattle.std.proofs.Common.{map, take}
use Rattle.std.specs.Prelude.{string_bytes}
use Rattle.std.specs.Fn.{FnReturnsAt}
use Rattle.program_jobs.specs.Running.{Finds}
use Rattle.program_jobs.proofs.running.all_found.Given as goal

-- the files found for the words so far
abbrev pub invariant-words : goal.invariant-words
invariant-words g l = Finds (FnReturnsAt g.L.Fn l.finder) (map string_bytes (take l.word-index l.words))
    (map string_bytes l.all.items)
