use Rattle.std.proofs.Common.{refl, inr}
use Rattle.wl_recording.proofs.Progress.{reached_piece, reached_bad}
use Rattle.wl_recording.proofs.reader.PieceReader.append_next.Goals as goal

pub returns-in-Some-2-clause-read : goal.returns-in-Some-2-clause-read
returns-in-Some-2-clause-read g c = λ text pieces read.
    let told = c.in_ok-appended.ensures.appended in
    let more = rw c.in-Some-2.is at told in
    let reached = rw c.in-Some.is at (c.next_line.ensures.reached text pieces read) in
    (more.0, reached_piece text _ _ _ pieces more.0 reached more.1, more.2)

pub returns-in-None-clause-bad : goal.returns-in-None-clause-bad
returns-in-None-clause-bad g c = λ text pieces read.
    let none = c.in_ok-appended.ensures.appended in
    let reached = rw c.in-Some.is at (c.next_line.ensures.reached text pieces read) in
    inr (_, refl, reached_bad text _ _ _ pieces reached (rw c.in-None.is at none))

pub returns-in_err-appended-clause-memory : goal.returns-in_err-appended-clause-memory
returns-in_err-appended-clause-memory g c = λ text pieces memory read.
    let told = c.in_err-appended.ensures.memory in
    let reached = rw c.in-Some.is at (c.next_line.ensures.reached text pieces read) in
    (told.0, reached_piece text _ _ _ pieces told.0 reached told.1)
