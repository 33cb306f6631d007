use Rattle.std.proofs.Common.{ℕ, sym, subst}
use Rattle.std.specs.Prelude.{Result}
use Rattle.wl_objects.specs.declared.error.SendError.{SendError}
use Rattle.theory_connection.specs.Pair.{Announces, PairState, with_server}
use Rattle.wl_session.proofs.InboxSizes.{holds, announced_box}
use Rattle.wl_session.proofs.CallOutcomes.{announces}
use Rattle.wl_session.proofs.pair.Pair.announce.Goals as goal

pub invariant_of-self : goal.invariant_of-self
invariant_of-self g c = record {
  client_fits = c.self.invariant.client_fits;
  server_fits = holds _ _ _ _ (announced_box _ _ _ c.announce-told.ensures.ok c.announce-told.ensures.err)
      c.self.invariant.server_fits;
  few_tokens = c.self.invariant.few_tokens;
}

pub returns : goal.returns
returns g c =
    let pair : PairState = record {
      client = c.self.inside.client;
      server = c.self.inside.server;
      recording = c.self.inside.recording;
      ended_at = c.self.inside.ended_at;
    } in
    let told = c.announce-told in
    rw (← c.self.view_is)
    (subst (λ (r : Result ℕ SendError). Announces pair r (with_server pair told.new.self)) (sym c.counted.ensures)
    (announces pair _ _ told.ensures.ok told.ensures.err))
