use Rattle.std.proofs.Common.{ap, sym, ◌∙◌, length, Some}
use Rattle.std.proofs.lemmas.List.{length-map}
use Rattle.wl_recording.specs.Piece.{recorded_piece}
use Rattle.wl_session.proofs.CallOutcomes.{posts, fails, marks_first, marks_no_more}
use Rattle.wl_session.proofs.pair.Pair.post_error.Goals as goal

pub returns-in_err-post_error : goal.returns-in_err-post_error
returns-in_err-post_error g c =
    rw (← c.self.view_is)
    (fails (λ s. record {
      client = c.self.inside.client;
      server = s;
      recording = c.self.inside.recording;
      ended_at = c.self.inside.ended_at;
    }) _ _ _ _ _ _
    c.in_err-post_error.ensures.answer c.in_err-post_error.ensures.err c.from_residual.ensures.1)

pub returns-then-is_none : goal.returns-then-is_none
returns-then-is_none g c =
    let count = sym (length-map c.pieces.result.now recorded_piece) ∙ ap length c.pieces.ensures.all in
    rw (← c.self.view_is)
    (posts (record {
      client = c.self.inside.client;
      server = c.self.inside.server;
      recording = c.self.inside.recording;
      ended_at = c.self.inside.ended_at;
    }) _ _ _ _ _
    c.in_ok-post_error.ensures.answer c.in_ok-post_error.ensures.ok
    (ap Some count ∙ marks_first c.self.inside.ended_at _ c.if-is_none.ensures))

pub returns-else-is_none : goal.returns-else-is_none
returns-else-is_none g c =
    rw (← c.self.view_is)
    (posts (record {
      client = c.self.inside.client;
      server = c.self.inside.server;
      recording = c.self.inside.recording;
      ended_at = c.self.inside.ended_at;
    }) _ _ _ _ _
    c.in_ok-post_error.ensures.answer c.in_ok-post_error.ensures.ok
    (marks_no_more c.self.inside.ended_at _ c.if-is_none.ensures))
