use Rattle.std.proofs.Common.{refl, inr}
use Rattle.wl_recording.proofs.Progress.{reached_piece, reached_bad}
use Rattle.wl_recording.proofs.reader.PieceReader.next_piece.Goals as goal

pub returns-in-Some-2-clause-read : goal.returns-in-Some-2-clause-read
returns-in-Some-2-clause-read g c = λ text pieces read.
    let told = c.in_ok-piece.ensures in
    let reached = rw c.in-Some.is at (c.next_line.ensures.reached text pieces read) in
    reached_piece text _ _ _ pieces _ reached (rw c.in-Some-2.is at told)

pub returns-in-None-clause-bad : goal.returns-in-None-clause-bad
returns-in-None-clause-bad g c = λ text pieces read.
    let none = c.in_ok-piece.ensures in
    let reached = rw c.in-Some.is at (c.next_line.ensures.reached text pieces read) in
    inr (_, refl, reached_bad text _ _ _ pieces reached (rw c.in-None.is at none))
