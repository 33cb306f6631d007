use Rattle.std.proofs.Common.{◌<◌, length, replicate, sym, ◌∙◌, arith}
use Rattle.std.proofs.lemmas.List.{length-replicate}
use Rattle.wl_recording.proofs.FillLemmas.{last_len-passed, filled_passed}
use Rattle.wl_recording.proofs.recording.Recording.add.Goals as goal

pub fill_last-requires : goal.fill_last-requires
fill_last-requires g c =
    let some : 0 < length c.args.bytes.now = grind arith in
    let zeros = length-replicate (length c.args.bytes.now) 0 in
    let last = last_len-passed c.args.self.now c.args.direction (replicate (length c.args.bytes.now) 0) c.args.tokens
    (omega (arith, zeros, some)) in
    rw c.in_ok-prepare.ensures.ok (sym (last ∙ zeros))

pub returns-then-not-is_empty-clause-ok : goal.returns-then-not-is_empty-clause-ok
returns-then-not-is_empty-clause-ok g c =
    let some : 0 < length c.args.bytes.now = grind arith in
    let filled = filled_passed c.args.self.now c.args.direction c.args.bytes.now c.args.tokens some in
    c.fill_last.ensures ∙ rw c.in_ok-prepare.ensures.ok filled
