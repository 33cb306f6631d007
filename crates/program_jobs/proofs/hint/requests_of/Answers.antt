use Rattle.std.proofs.Common.{◌∙◌, ◌++◌, ℕ, List, ap, sym}
use Rattle.wl_recording.specs.declared.piece.Direction.TheVariants.{ToServer}
use Rattle.wl_recording.specs.Piece.{own_bytes}
use Rattle.program_jobs.proofs.Texts.{stream_take}
use Rattle.program_jobs.proofs.hint.requests_of.Goals as goal

pub pieces-preserved : goal.pieces-preserved
pieces-preserved g c = c.in_ok-append_request.ensures
    ∙ ap (λ (l : List ℕ). l ++ own_bytes ToServer c.piece-item.result.direction c.piece-item.result.bytes)
    c.pieces.invariant
    ∙ sym (stream_take c.pieces-piece-items.result.now c.pieces.piece-index c.piece-item.result c.pieces-test.true
    c.piece-item.is)
