use Rattle.wl_server.specs.Seen.{report_in}
use Rattle.wl_session.proofs.InboxSizes.{holds, read_leaves_box}
use Rattle.wl_session.proofs.CallOutcomes.{nexts, reports_alone, server_never}
use Rattle.wl_session.proofs.pair.Pair.server_next.Goals as goal

pub invariant_of-self : goal.invariant_of-self
invariant_of-self g c = record {
  client_fits = c.self.invariant.client_fits;
  server_fits = holds _ _ _ _ (read_leaves_box c.self.inside.server c.next_owned.new.self
      (report_in c.next_owned.result) c.next_owned.ensures.state) c.self.invariant.server_fits;
  few_tokens = c.self.invariant.few_tokens;
}

pub returns : goal.returns
returns g c = rw (← c.self.view_is) (nexts (λ s. record {
  client = c.self.inside.client;
  server = s;
  recording = c.self.inside.recording;
  ended_at = c.self.inside.ended_at;
}) _ _ _ _ _ _ _
    (server_never c.self.inside.server) (reports_alone _ _ _ c.next_owned.ensures.answer) c.next_owned.ensures.state)
