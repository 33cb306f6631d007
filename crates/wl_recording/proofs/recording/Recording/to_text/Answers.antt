use Rattle.std.proofs.Common.{◌≡◌, sym, ◌∙◌, arith}
use Rattle.std.proofs.lemmas.Grind.{common_steps}
use Rattle.wl_recording.specs.Piece.{recorded_piece}
use Rattle.wl_recording.specs.Text.{recording_text}
use Rattle.wl_recording.proofs.WriteLemmas.{text_told, text_more}
use Rattle.wl_recording.proofs.recording.Recording.to_text.Goals as goal

pub loop-piece-preserved : goal.loop-piece-preserved
loop-piece-preserved g c =
    let invariant = c.loop-piece.invariant in
    let more = text_more recorded_piece c.deref-piece-items.result.now c.loop-piece.piece-index c.piece-item.result
    c.loop-piece-test.true c.piece-item.is in
    c.in_ok-write_piece.ensures ∙ rw invariant (sym more)

pub returns-clause-told : goal.returns-clause-told
returns-clause-told g c =
    let whole : c.loop-piece.text.items ≡ recording_text c.args.self.now = grind (arith, common_steps) in
    rw whole (text_told c.args.self.now (rw c.self.view_is at c.self.invariant))
