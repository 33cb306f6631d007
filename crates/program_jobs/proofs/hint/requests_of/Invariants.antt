use Rattle.std.proofs.Common.{◌≡◌, map, take}
use Rattle.wl_recording.specs.declared.piece.Direction.TheVariants.{ToServer}
use Rattle.wl_recording.specs.Piece.{recorded_piece}
use Rattle.wl_check.specs.Merged.{stream_of}
use Rattle.program_jobs.proofs.hint.requests_of.Given as goal

-- the bytes of the requests so far
abbrev pub invariant-pieces : goal.invariant-pieces
invariant-pieces g l =
    l.requests.items ≡ stream_of ToServer (map recorded_piece (take l.piece-index l.piece-items))
