use Rattle.wl_session.proofs.CallOutcomes.{nexts, client_never}
use Rattle.wl_session.proofs.pair.Pair.client_next.Goals as goal

pub returns : goal.returns
returns g c = rw (← c.self.view_is) (nexts (λ s. record {
  client = s;
  server = c.self.inside.server;
  recording = c.self.inside.recording;
  ended_at = c.self.inside.ended_at;
}) _ _ _ _ _ _ _
    (client_never c.self.inside.client) c.next_owned.ensures.answer c.next_owned.ensures.state)
