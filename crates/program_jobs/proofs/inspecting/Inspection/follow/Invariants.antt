use Rattle.std.proofs.Common.{ℕ, List}
use Rattle.wl_sigs.specs.Tables.{Interface}
use Rattle.wl_recording.specs.Piece.{Piece}
use Rattle.program_jobs.specs.Inspecting.{IsFollowing}
use Rattle.program_jobs.proofs.inspecting.Inspection.follow.Given as goal

-- some messages may be left
abbrev pub invariant-messages : goal.invariant-messages
invariant-messages l = (limit : ℕ) (tables : List Interface) (pieces : List Piece)
    → IsFollowing limit tables pieces l.direction l.fn.self → IsFollowing limit tables pieces l.direction l.self
