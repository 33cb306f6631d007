use Rattle.std.proofs.Common.{ap, refl}
use Rattle.std.specs.Prelude.{is_some}
use Rattle.program_jobs.proofs.PiecesInspected.{noted_by, went_past}
use Rattle.program_jobs.proofs.inspecting.Inspection.go_past.Goals as goal

pub returns : goal.returns
returns c limit tables pieces r =
    let ahead = c.in-Some.ensures in
    went_past limit tables pieces c.args.direction c.args.self.now r _ c.in-Some.message ahead
    (c.in_ok-go_past.ensures.past (ap is_some ahead.size))
    (noted_by limit tables pieces c.args.self.now r.inspected _ c.args.direction c.in-Some.message _
    (c.noted_after-noted.ensures limit tables pieces r.inspected.passed)) refl refl refl
