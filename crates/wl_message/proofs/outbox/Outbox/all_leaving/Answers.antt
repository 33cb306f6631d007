use Rattle.std.proofs.Common.{◌∙◌}
use Rattle.wl_message.proofs.PartedQueue.{all_goes, all_leaves}
use Rattle.wl_message.proofs.outbox.Outbox.all_leaving.Goals as goal

pub returns-clause-computed : goal.returns-clause-computed
returns-clause-computed g c =
    rw (← c.self.view_is) (λ b t p q. (λ i. record { bytes = c.len.ensures.len i; tokens = c.len-2.ensures.len i })
    ∙ all_goes _ b t c.self.invariant.kept p q)

pub returns-clause-leaving : goal.returns-clause-leaving
returns-clause-leaving g c =
    rw (← c.self.view_is, c.len.ensures.len, c.len-2.ensures.len, c.len-3.ensures)
    (all_leaves _ c.self.invariant.kept)
