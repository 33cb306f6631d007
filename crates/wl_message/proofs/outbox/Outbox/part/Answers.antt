use Rattle.std.proofs.Common.{◌≡◌, ℕ, ◌<◌, List, length, take, ap, sym, subst, ◌∙◌}
use Rattle.wl_message.specs.Outgoing.{Outgoing, waiting_bytes}
use Rattle.wl_message.proofs.PartedQueue.{bytes_wait}
use Rattle.wl_message.proofs.outbox.Outbox.part.Goals as goal

pub returns-clause-front : goal.returns-clause-front
returns-clause-front g c =
    let w : c.self.inside.bytes.items ≡ waiting_bytes c.args.self.now =
    sym (bytes_wait _ c.self.invariant.kept) ∙ ap (λ (o : Outgoing). waiting_bytes o) c.self.view_is in
    c.first_part.ensures.front ∙ ap (take (length c.first_part.result.now)) w

pub returns-clause-some : goal.returns-clause-some
returns-clause-some g c =
    let w : c.self.inside.bytes.items ≡ waiting_bytes c.args.self.now =
    sym (bytes_wait _ c.self.invariant.kept) ∙ ap (λ (o : Outgoing). waiting_bytes o) c.self.view_is in
    λ most some. c.first_part.ensures.some most (subst (λ (xs : List ℕ). 0 < length xs) (sym w) some)
