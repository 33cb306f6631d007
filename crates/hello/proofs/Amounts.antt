-- What is taken fits where it is put.
use Rattle.std.proofs.Common.{◌≡◌, ℕ, ◌≤◌, sym, subst, arith}
use Rattle.wl_message.specs.Outgoing.{Outgoing, goes}
use Rattle.wl_message.specs.declared.amounts.Amounts.{Amounts}
use Rattle.wl_message.proofs.WhatGoes.{goes_goes}

goes_bytes : (o : Outgoing) (b t : ℕ) → (goes o b t).bytes ≤ b
goes_bytes o b t = (goes_goes o b t).may.within

goes_tokens : (o : Outgoing) (b t : ℕ) → (goes o b t).tokens ≤ t
goes_tokens o b t =
    let g = goes_goes o b t in
    let e = g.with_tokens in
    let few = g.may.tokens_within in
    omega (arith, e, few)

pub taken_bytes : (o : Outgoing) (b t : ℕ) (taken : Amounts) → taken ≡ goes o b t → taken.bytes ≤ b
taken_bytes o b t taken e = subst (λ (x : Amounts). x.bytes ≤ b) (sym e) (goes_bytes o b t)

pub taken_tokens : (o : Outgoing) (b t : ℕ) (taken : Amounts) → taken ≡ goes o b t → taken.tokens ≤ t
taken_tokens o b t taken e = subst (λ (x : Amounts). x.tokens ≤ t) (sym e) (goes_tokens o b t)
