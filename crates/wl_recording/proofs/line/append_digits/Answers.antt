use Rattle.std.proofs.Common.{ℕ, ◌<◌, List, length, arith}
use Rattle.hex.proofs.HexLemmas.{decode_of-ok}
use Rattle.wl_recording.specs.Line.{SpellsBytes, some_bytes}
use Rattle.wl_recording.proofs.PieceLemmas.{on_err}
use Rattle.wl_recording.proofs.line.append_digits.Goals as goal
use Rattle.wl_recording.proofs.line.append_digits.Goals.{in_default-via-then-digits-lt2+in_default-1}
use Rattle.wl_recording.proofs.line.append_digits.Goals.{in_default-via-else-digits-lt2}

pub returns-then-branch-clause-appended : goal.returns-then-branch-clause-appended
returns-then-branch-clause-appended g c =
    let some : 0 < length c.args.digits.now = elim c.in_default.branch [
      | in_default-via-then-digits-lt2+in_default-1 w ↦ grind arith
      | in_default-via-else-digits-lt2 w ↦ grind arith
    ] in
    let r = c.in_ok-append_bytes-in_default.ensures.read c.if-branch.true in
    let len = (decode_of-ok c.args.digits.now r.0 r.2).2 in
    (r.0, some_bytes some r.2, omega (arith, len), r.1)

pub returns-in_err-append_bytes-in_default-clause-memory : goal.returns-in_err-append_bytes-in_default-clause-memory
returns-in_err-append_bytes-in_default-clause-memory g c =
    let some : 0 < length c.args.digits.now = elim c.in_default.branch [
      | in_default-via-then-digits-lt2+in_default-1 w ↦ grind arith
      | in_default-via-else-digits-lt2 w ↦ grind arith
    ] in
    let read = c.in_err-append_bytes-in_default.ensures.memory in
    let spelled : (more : List ℕ) × SpellsBytes c.args.digits.now more = (read.0, some_bytes some read.1) in
    on_err c.from_residual.result spelled
