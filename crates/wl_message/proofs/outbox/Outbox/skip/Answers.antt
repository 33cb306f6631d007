use Rattle.std.proofs.Common.{ℕ, ap, ◌∙◌}
use Rattle.wl_message.specs.declared.amounts.Amounts.{Amounts}
use Rattle.wl_message.specs.Outgoing.{after_taking}
use Rattle.wl_message.proofs.FlushedParts.{goes_all}
use Rattle.wl_message.proofs.outbox.Outbox.skip.Goals as goal

pub returns : goal.returns
returns g c =
    c.remove.ensures.rest
    ∙ ap (λ (n : ℕ). after_taking c.args.self.now n)
    (ap (λ (t : Amounts). t.bytes) c.leaving-leaving.ensures.computed ∙ goes_all c.args.self.now c.args.n c.requires)
