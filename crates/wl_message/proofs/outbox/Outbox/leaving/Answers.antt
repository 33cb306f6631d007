use Rattle.std.proofs.Common.{◌≤◌, length, sym, subst, arith}
use Rattle.std.proofs.lemmas.Bool.Decides.{nat_tests}
use Rattle.wl_message.specs.declared.amounts.Amounts.{Amounts}
use Rattle.wl_message.specs.Outgoing.{Goes, waiting_bytes, waiting_tokens}
use Rattle.wl_message.proofs.PartedQueue.{bytes_wait, tokens_wait}
use Rattle.wl_message.proofs.WhatGoes.{goes_goes}
use Rattle.wl_message.proofs.outbox.Outbox.leaving.Goals as goal

pub returns-then-len-tokens-clause-computed : goal.returns-then-len-tokens-clause-computed
returns-then-len-tokens-clause-computed g c =
    let bytes : length (waiting_bytes c.args.self.now) ≤ c.args.bytes =
    rw (← c.self.view_is, bytes_wait _ c.self.invariant.kept)
    (grind (arith, nat_tests, c.len.ensures.len, c.if-len-bytes.true)) in
    let tokens : length (waiting_tokens c.args.self.now) ≤ c.args.tokens =
    rw (← c.self.view_is, tokens_wait _ c.self.invariant.kept)
    (grind (arith, nat_tests, c.len-then-len-bytes.ensures.len, c.if-len-tokens.true)) in
    c.all_leaving.ensures.computed c.args.bytes c.args.tokens bytes tokens

pub returns-then-len-tokens-clause-longest : goal.returns-then-len-tokens-clause-longest
returns-then-len-tokens-clause-longest g c =
    subst (λ (t : Amounts). Goes c.args.self.now c.args.bytes c.args.tokens t)
    (sym (returns-then-len-tokens-clause-computed g c)) (goes_goes c.args.self.now c.args.bytes c.args.tokens)
