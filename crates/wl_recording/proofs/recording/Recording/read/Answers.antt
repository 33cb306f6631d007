use Rattle.wl_recording.proofs.TextLemmas.{tell_tellable, refused_on, IsRefused}
use Rattle.wl_recording.proofs.recording.Recording.read.Goals as goal

pub returns-in_err-piece-clause-bad : goal.returns-in_err-piece-clause-bad
returns-in_err-piece-clause-bad g c =
    let bad = c.in_err-piece.ensures.bad c.args.text.now _ c.pieces.invariant in
    refused_on c.from_residual-in_err-piece.result c.in_err-piece.field-0.0 _
    (IsRefused c.args.text.now) c.from_residual-in_err-piece.ensures.1 (λ e h. cc h) bad

pub invariant_of-result : goal.invariant_of-result
invariant_of-result g c = tell_tellable c.pieces.invariant.told
