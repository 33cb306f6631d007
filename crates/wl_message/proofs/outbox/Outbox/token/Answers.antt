use Rattle.std.proofs.Common.{◌∙◌}
use Rattle.wl_message.proofs.PartedQueue.{tokens_wait}
use Rattle.wl_message.proofs.outbox.Outbox.token.Goals as goal

pub returns : goal.returns
returns g c = rw (← c.self.view_is, tokens_wait _ c.self.invariant.kept) (c.copied.ensures ∙ c.get.ensures)
