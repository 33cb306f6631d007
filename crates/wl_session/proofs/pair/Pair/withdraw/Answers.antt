use Rattle.wl_session.proofs.CallOutcomes.{calls}
use Rattle.wl_session.proofs.pair.Pair.withdraw.Goals as goal

pub returns : goal.returns
returns g c = rw (← c.self.view_is) (calls (λ s. record {
  client = c.self.inside.client;
  server = s;
  recording = c.self.inside.recording;
  ended_at = c.self.inside.ended_at;
}) _ _ _ _ _ c.withdraw.ensures.answer
    c.withdraw.ensures.ok c.withdraw.ensures.err)
