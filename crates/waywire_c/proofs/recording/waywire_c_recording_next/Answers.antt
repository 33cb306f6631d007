use Rattle.wl_recording.specs.Piece.{recorded_piece}
use Rattle.waywire_c.proofs.BadLines.{first_bad_of}
use Rattle.waywire_c.proofs.recording.waywire_c_recording_next.Goals as goal

pub returns-in-Err-clause-bad : goal.returns-in-Err-clause-bad
returns-in-Err-clause-bad c done whole pieces read =
    first_bad_of whole _ _ (c.put_error.ensures.bad done) (c.in-Err.ensures.bad whole pieces read)

pub returns-in-Ok-Some-clause-full : goal.returns-in-Ok-Some-clause-full
returns-in-Ok-Some-clause-full c done whole pieces read =
    let there = rw c.in-Ok-Some.field-0-is at (c.in-Ok-Some.ensures.read whole pieces read) in
    (recorded_piece c.in-Ok-Some.passed, _, _, there, c.put_piece.ensures.full done)
