use Rattle.std.proofs.Common.{◌≡◌, ◌≤◌, ℕ, List, [], length, take, ap, sym, subst, ◌∙◌}
use Rattle.wl_message.specs.Outgoing.{Outgoing, Goes, waiting_bytes, waiting_tokens}
use Rattle.wl_message.proofs.PartedQueue.{bytes_wait, tokens_wait, nothing_left}
use Rattle.wl_message.proofs.Peeked.{peeks}
use Rattle.wl_message.proofs.outbox.Outbox.peek.Goals as goal

pub first_in_parts-requires : goal.first_in_parts-requires
first_in_parts-requires g c =
    let w : c.self.inside.bytes.items ≡ waiting_bytes c.args.self.now =
    sym (bytes_wait _ c.self.invariant.kept) ∙ ap (λ (o : Outgoing). waiting_bytes o) c.self.view_is in
    subst (λ (l : List ℕ). c.goes-len.result.bytes ≤ length l) (sym w) c.goes-len.ensures.longest.may.there

pub returns : goal.returns
returns g c =
    let i = c.self.invariant.kept in
    let o : Outgoing = c.args.self.now in
    let w : c.self.inside.bytes.items ≡ waiting_bytes o =
    sym (bytes_wait _ i) ∙ ap (λ (p : Outgoing). waiting_bytes p) c.self.view_is in
    let t : c.len.result ≡ length (waiting_tokens o) =
    c.len.ensures.len ∙ ap length (sym (tokens_wait _ i))
    ∙ ap (λ (p : Outgoing). length (waiting_tokens p)) c.self.view_is in
    let b : c.len-2.result ≡ length (waiting_bytes o) = c.len-2.ensures.len ∙ ap length w in
    let empty : length (waiting_bytes o) ≡ 0 → o.messages ≡ [] =
    λ e. sym (ap (λ (p : Outgoing). p.messages) c.self.view_is) ∙ (nothing_left _ i (ap length w ∙ e)).1 in
    peeks o c.goes-tokens.result c.goes-len.result _ empty
    (subst (λ (n : ℕ). Goes o 1 n c.goes-tokens.result) t c.goes-tokens.ensures.longest)
    (subst (λ (n : ℕ). Goes o n c.goes-tokens.result.tokens c.goes-len.result) b c.goes-len.ensures.longest)
    (c.first_in_parts.ensures ∙ ap (take c.goes-len.result.bytes) w)
