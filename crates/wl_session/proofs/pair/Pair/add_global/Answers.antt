use Rattle.wl_session.proofs.CallOutcomes.{adds}
use Rattle.wl_session.proofs.pair.Pair.add_global.Goals as goal

pub returns : goal.returns
returns g c = rw (← c.self.view_is) (adds (λ s. record {
  client = c.self.inside.client;
  server = s;
  recording = c.self.inside.recording;
  ended_at = c.self.inside.ended_at;
}) _ _ _ _ _ _ c.add_global.ensures.answer
    c.add_global.ensures.ok c.add_global.ensures.err)
