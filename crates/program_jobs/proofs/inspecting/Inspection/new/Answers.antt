use Rattle.std.proofs.Common.{refl}
use Rattle.program_jobs.proofs.PiecesInspected.{inspects_none}
use Rattle.program_jobs.proofs.inspecting.Inspection.new.Goals as goal

pub returns : goal.returns
returns c = inspects_none c.args.limit.bytes c.args.tables.now _ refl refl c.in_ok-new.ensures.passed
    c.in_ok-new-2.ensures refl
