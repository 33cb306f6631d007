use Rattle.std.proofs.Common.{◌≡◌, ℕ, length, ap, sym, subst, ◌∙◌, arith}
use Rattle.wl_message.specs.declared.amounts.Amounts.{Amounts}
use Rattle.wl_message.specs.Outgoing.{Outgoing, Goes, goes, waiting_tokens}
use Rattle.wl_message.proofs.PartedQueue.{tokens_wait}
use Rattle.wl_message.proofs.WhatGoes.{goes_goes}
use Rattle.wl_message.proofs.Waiting.{as_many}
use Rattle.wl_message.proofs.outbox.Outbox.sent.Goals as goal

pub returns-clause-computed : goal.returns-clause-computed
returns-clause-computed g c =
    let w : c.len.result ≡ length (waiting_tokens c.args.self.now) =
    c.len.ensures.len ∙ ap length (sym (tokens_wait _ c.self.invariant.kept))
    ∙ ap (λ (o : Outgoing). length (waiting_tokens o)) c.self.view_is in
    c.remove.ensures.taken ∙ c.leaving-leaving.ensures.computed ∙ ap (λ (n : ℕ). goes c.args.self.now c.args.bytes n) w

pub returns-clause-longest : goal.returns-clause-longest
returns-clause-longest g c =
    subst (λ (t : Amounts). Goes c.args.self.now c.args.bytes (length (waiting_tokens c.args.self.now)) t)
    (sym (returns-clause-computed g c))
    (goes_goes c.args.self.now c.args.bytes (length (waiting_tokens c.args.self.now)))

pub returns-clause-bytes : goal.returns-clause-bytes
returns-clause-bytes g c =
    as_many c.args.self.now c.args.bytes (length (waiting_tokens c.args.self.now)) _ (returns-clause-longest g c)
    (omega arith)
