use Rattle.std.proofs.Common.{◌≡◌, ℕ, ◌≤◌, List, [], ◌++◌, length, take, drop, ap, sym, subst, ◌∙◌, arith}
use Rattle.std.proofs.Common.{length-drop}
use Rattle.std.proofs.lemmas.List.{length-take-le}
use Rattle.wl_message.specs.declared.amounts.Amounts.{Amounts}
use Rattle.wl_message.specs.Outgoing.{Outgoing, Goes, goes, after_taking, waiting_bytes, waiting_tokens}
use Rattle.wl_message.proofs.PartedQueue.{leaves, bytes_wait, tokens_wait, nothing_waits}
use Rattle.wl_message.proofs.WhatGoes.{goes_goes}
use Rattle.wl_message.proofs.Waiting.{all_go}
use Rattle.wl_message.proofs.outbox.Outbox.take_tokens.Goals as goal

pub copy_first-requires : goal.copy_first-requires
copy_first-requires g c =
    let n : ℕ = c.leaving-leaving.result.taken.tokens in
    let l = leaves _ _ c.self.invariant.kept (rw (← c.self.view_is) at c.leaving-leaving.ensures.leaving) in
    let goes = c.leaving-leaving.ensures.longest in
    let room : n ≤ length c.args.tokens.now = omega (arith, goes.with_tokens, goes.may.tokens_within) in
    omega (arith, l.tokens, length-take-le n c.args.tokens.now room)

pub returns-clause-computed : goal.returns-clause-computed
returns-clause-computed g c =
    let w : c.len.result ≡ length (waiting_bytes c.args.self.now) =
    c.len.ensures.len ∙ ap length (sym (bytes_wait _ c.self.invariant.kept))
    ∙ ap (λ (o : Outgoing). length (waiting_bytes o)) c.self.view_is in
    c.remove.ensures.taken ∙ c.leaving-leaving.ensures.computed
    ∙ ap (λ (n : ℕ). goes c.args.self.now n (length c.args.tokens.now)) w

pub returns-clause-longest : goal.returns-clause-longest
returns-clause-longest g c =
    subst (λ (t : Amounts). Goes c.args.self.now (length (waiting_bytes c.args.self.now)) (length c.args.tokens.now) t)
    (sym (returns-clause-computed g c))
    (goes_goes c.args.self.now (length (waiting_bytes c.args.self.now)) (length c.args.tokens.now))

pub returns-clause-tokens : goal.returns-clause-tokens
returns-clause-tokens g c =
    let n : ℕ = c.leaving-leaving.result.taken.tokens in
    let items = c.self.inside.tokens.items in
    let w : items ≡ waiting_tokens c.args.self.now =
    sym (tokens_wait _ c.self.invariant.kept) ∙ ap (λ (o : Outgoing). waiting_tokens o) c.self.view_is in
    let goes = c.leaving-leaving.ensures.longest in
    let room : n ≤ length c.args.tokens.now = omega (arith, goes.with_tokens, goes.may.tokens_within) in
    rw (c.remove.ensures.taken)
    (ap (λ (l : List ℕ). l ++ drop n c.args.tokens.now)
    (c.copy_first.ensures ∙ ap (λ (m : ℕ). take m items) (length-take-le n c.args.tokens.now room) ∙ ap (take n) w))

pub returns-clause-all : goal.returns-clause-all
returns-clause-all g c = λ enough.
    let o : Outgoing = c.args.self.now in
    let n : ℕ = c.leaving-leaving.result.taken.bytes in
    let bytes = c.self.inside.bytes.items in
    let l = leaves _ _ c.self.invariant.kept (rw (← c.self.view_is) at c.leaving-leaving.ensures.leaving) in
    let w : length bytes ≡ length (waiting_bytes o) =
    ap length (sym (bytes_wait _ c.self.invariant.kept)) ∙ ap (λ (p : Outgoing). length (waiting_bytes p)) c.self.view_is
    in
    let most = all_go o (length c.args.tokens.now) _ (returns-clause-longest g c) enough in
    let gone = ap (λ (t : Amounts). t.bytes) c.remove.ensures.taken in
    let z : length (drop n bytes) ≡ 0 = omega (arith, length-drop n bytes, most, gone, w) in
    subst (λ (p : Outgoing). (waiting_bytes p ≡ []) × (waiting_tokens p ≡ []))
    (l.after ∙ ap (λ (p : Outgoing). after_taking p n) c.self.view_is ∙ sym c.remove.ensures.rest)
    (nothing_waits _ l.kept z)
