use Rattle.std.proofs.Common.{map, take}
use Rattle.std.specs.Prelude.{string_bytes}
use Rattle.std.specs.Fn.{FnReturnsAt}
use Rattle.program_jobs.specs.Running.{AreOpened}
use Rattle.program_jobs.proofs.running.all_opened.Given as goal

-- the files opened so far
abbrev pub invariant-names : goal.invariant-names
invariant-names g l = AreOpened (FnReturnsAt g.F.Fn l.opener) (map string_bytes (take l.word-index l.names))
    l.files.items
