use Rattle.std.proofs.Common.{◌≡◌, ℕ, ◌≤◌, List, ◌++◌, length, take, drop, ap, sym, ◌∙◌, arith}
use Rattle.std.proofs.lemmas.List.{length-take-le}
use Rattle.wl_message.specs.Outgoing.{Outgoing, waiting_bytes, waiting_tokens}
use Rattle.wl_message.proofs.PartedQueue.{leaves, bytes_wait, tokens_wait}
use Rattle.wl_message.proofs.outbox.Outbox.take.Goals as goal

pub copy_first-requires : goal.copy_first-requires
copy_first-requires g c =
    let n : ℕ = c.leaving-leaving.result.taken.bytes in
    let l = leaves _ _ c.self.invariant.kept (rw (← c.self.view_is) at c.leaving-leaving.ensures.leaving) in
    omega (arith, l.bytes, length-take-le n c.args.bytes.now c.leaving-leaving.ensures.longest.may.within)

pub copy_first-requires-2 : goal.copy_first-requires-2
copy_first-requires-2 g c =
    let n : ℕ = c.leaving-leaving.result.taken.tokens in
    let l = leaves _ _ c.self.invariant.kept (rw (← c.self.view_is) at c.leaving-leaving.ensures.leaving) in
    let goes = c.leaving-leaving.ensures.longest in
    let room : n ≤ length c.args.tokens.now = omega (arith, goes.with_tokens, goes.may.tokens_within) in
    omega (arith, l.tokens, length-take-le n c.args.tokens.now room)

pub returns-clause-bytes : goal.returns-clause-bytes
returns-clause-bytes g c =
    let n : ℕ = c.leaving-leaving.result.taken.bytes in
    let items = c.self.inside.bytes.items in
    let w : items ≡ waiting_bytes c.args.self.now =
    sym (bytes_wait _ c.self.invariant.kept) ∙ ap (λ (o : Outgoing). waiting_bytes o) c.self.view_is in
    let size : length (take n c.args.bytes.now) ≡ n =
    length-take-le n c.args.bytes.now c.leaving-leaving.ensures.longest.may.within in
    rw (c.remove.ensures.taken)
    (ap (λ (l : List ℕ). l ++ drop n c.args.bytes.now)
    (c.copy_first.ensures ∙ ap (λ (m : ℕ). take m items) size ∙ ap (take n) w))

pub returns-clause-tokens : goal.returns-clause-tokens
returns-clause-tokens g c =
    let n : ℕ = c.leaving-leaving.result.taken.tokens in
    let items = c.self.inside.tokens.items in
    let w : items ≡ waiting_tokens c.args.self.now =
    sym (tokens_wait _ c.self.invariant.kept) ∙ ap (λ (o : Outgoing). waiting_tokens o) c.self.view_is in
    let goes = c.leaving-leaving.ensures.longest in
    let room : n ≤ length c.args.tokens.now = omega (arith, goes.with_tokens, goes.may.tokens_within) in
    rw (c.remove.ensures.taken)
    (ap (λ (l : List ℕ). l ++ drop n c.args.tokens.now)
    (c.copy_first-2.ensures ∙ ap (λ (m : ℕ). take m items) (length-take-le n c.args.tokens.now room) ∙ ap (take n) w))
