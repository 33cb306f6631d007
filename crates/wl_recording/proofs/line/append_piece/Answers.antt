use Rattle.std.proofs.Common.{refl, sym}
use Rattle.wl_recording.specs.Piece.{Piece}
use Rattle.wl_recording.specs.Line.{IsPiece}
use Rattle.wl_recording.proofs.PieceLemmas.{at_none, on_err}
use Rattle.wl_recording.proofs.line.append_piece.Goals as goal

pub returns-in_default-2-clause-appended : goal.returns-in_default-2-clause-appended
returns-in_default-2-clause-appended g c = λ piece told.
    at_none _ c.in_ok-len.field-0 c.in_default-2.not-Some c.in_ok-len.ensures.appended piece.bytes
    (c.in-Some.ensures.only piece told)

pub returns-clause-appended : goal.returns-clause-appended
returns-clause-appended g c =
    let len = c.in_ok-len.ensures.appended in
    let r = rw c.in-Some-2.is at len in (
      record { direction = c.in-Some.parts.direction; bytes = r.0; tokens = c.in-Some.parts.tokens },
      c.in-Some.ensures.parts r.0 r.1,
      record { direction = refl; len = sym r.2; tokens = refl; to_server = r.3; to_client = r.4 },
    )

pub returns-in_err-len-clause-memory : goal.returns-in_err-len-clause-memory
returns-in_err-len-clause-memory g c =
    let spelled = c.in_err-len.ensures.memory in
    let told : (piece : Piece) × IsPiece c.args.line.now piece = (_, c.in-Some.ensures.parts spelled.0 spelled.1) in
    on_err c.from_residual.result told
