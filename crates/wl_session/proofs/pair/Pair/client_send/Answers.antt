use Rattle.wl_session.proofs.CallOutcomes.{writes}
use Rattle.wl_session.proofs.pair.Pair.client_send.Goals as goal

pub returns : goal.returns
returns g c = rw (← c.self.view_is) (writes (λ s.
    record {
      client = s;
      server = c.self.inside.server;
      recording = c.self.inside.recording;
      ended_at = c.self.inside.ended_at;
    }) _ _ _ _ _ _ c.send.ensures.answer c.send.ensures.ok c.send.ensures.err)
