use Rattle.std.proofs.Common.{map, take}
use Rattle.wl_recording.specs.Piece.{recorded_piece}
use Rattle.program_jobs.specs.Inspecting.{IsInspecting}
use Rattle.program_jobs.proofs.inspecting.inspect.Given as goal

-- the pieces so far were inspected
abbrev pub invariant-pieces : goal.invariant-pieces
invariant-pieces l = IsInspecting l.fn.limit.bytes l.tables (map recorded_piece (take l.piece-index l.piece-items))
    l.inspection
