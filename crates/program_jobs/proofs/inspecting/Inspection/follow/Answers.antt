use Rattle.program_jobs.proofs.PiecesInspected.{no_more, some_more}
use Rattle.program_jobs.proofs.inspecting.Inspection.follow.Goals as goal

pub returns-then-not-branch : goal.returns-then-not-branch
returns-then-not-branch c limit tables pieces r = no_more limit tables pieces c.args.direction _ _
    c.if-not-branch.true (c.in_ok-go_past.ensures limit tables pieces (c.messages.invariant limit tables pieces r))

pub messages-preserved : goal.messages-preserved
messages-preserved c limit tables pieces r = some_more limit tables pieces c.args.direction _ _
    c.if-not-branch.false (c.in_ok-go_past.ensures limit tables pieces (c.messages.invariant limit tables pieces r))
