use Rattle.std.proofs.Common.{◌≡◌, ℕ, length, ap, sym, subst, ◌∙◌}
use Rattle.wl_message.specs.Outgoing.{Outgoing, Goes, waiting_bytes}
use Rattle.wl_message.proofs.PartedQueue.{bytes_wait}
use Rattle.wl_message.proofs.FlushedParts.{stops, is_may}
use Rattle.wl_message.proofs.outbox.Outbox.tokenless_len.Goals as goal

pub returns-clause-may : goal.returns-clause-may
returns-clause-may g c =
    let w : c.len.result ≡ length (waiting_bytes c.args.self.now) =
    c.len.ensures.len ∙ ap length (sym (bytes_wait _ c.self.invariant.kept))
    ∙ ap (λ (o : Outgoing). length (waiting_bytes o)) c.self.view_is in
    is_may c.args.self.now c.goes.result (subst (λ (n : ℕ). Goes c.args.self.now n 0 c.goes.result) w
    c.goes.ensures.longest)

pub returns-clause-stops : goal.returns-clause-stops
returns-clause-stops g c =
    let w : c.len.result ≡ length (waiting_bytes c.args.self.now) =
    c.len.ensures.len ∙ ap length (sym (bytes_wait _ c.self.invariant.kept))
    ∙ ap (λ (o : Outgoing). length (waiting_bytes o)) c.self.view_is in
    stops _ c.args.self.now c.goes.result c.self.invariant.kept c.self.view_is
    (subst (λ (n : ℕ). Goes c.args.self.now n 0 c.goes.result) w c.goes.ensures.longest)
