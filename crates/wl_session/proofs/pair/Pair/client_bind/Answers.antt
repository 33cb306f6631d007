use Rattle.wl_session.proofs.CallOutcomes.{binds}
use Rattle.wl_session.proofs.pair.Pair.client_bind.Goals as goal

pub returns : goal.returns
returns g c = rw (← c.self.view_is) (binds (λ s. record {
  client = s;
  server = c.self.inside.server;
  recording = c.self.inside.recording;
  ended_at = c.self.inside.ended_at;
}) _ _ _ _ _ c.bind.ensures.answer
    c.bind.ensures.ok c.bind.ensures.err)
