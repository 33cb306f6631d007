use Rattle.std.proofs.Common.{◌-◌, sym, subst, arith}
use Rattle.std.proofs.lemmas.List.{length-drop}
use Rattle.wl_message.specs.declared.amounts.Amounts.{Amounts}
use Rattle.wl_message.specs.Outgoing.{Goes}
use Rattle.wl_message.proofs.PartedQueue.{reaches_kept, goes_out, leaves, boundaries_fit}
use Rattle.wl_message.proofs.WhatGoes.{goes_goes}
use Rattle.wl_message.proofs.outbox.Outbox.some_leaving.Goals as goal

pub reach_into-reach-requires : goal.reach_into-reach-requires
reach_into-reach-requires g c =
    let i = c.self.invariant.kept in
    omega (arith, boundaries_fit c.self.inside.boundaries.items i.each, i.bytes, i.room, i.error_len, c.self.invariant.small)

pub overflow_sub-result : goal.overflow_sub-result
overflow_sub-result g c =
    let r = reaches_kept _ c.args.bytes c.args.tokens c.min-first.result c.reach_into-reach.result
    c.self.invariant.kept c.min-first.ensures c.reach_into-reach.ensures in
    omega (arith, r.bytes)

pub overflow_sub-result-2 : goal.overflow_sub-result-2
overflow_sub-result-2 g c =
    let r = reaches_kept _ c.args.bytes c.args.tokens c.min-first.result c.reach_into-reach.result
    c.self.invariant.kept c.min-first.ensures c.reach_into-reach.ensures in
    omega (arith, r.tokens)

pub overflow_add-result : goal.overflow_add-result
overflow_add-result g c =
    let i = c.self.invariant.kept in
    let o = goes_out _ c.args.bytes c.args.tokens c.min-first.result c.reach_into-reach.result i c.min-first.ensures
    c.reach_into-reach.ensures in
    let l = leaves _ _ i o.leaving in
    omega (
      arith,
      l.kept.bytes,
      l.bytes,
      length-drop
          (c.args.bytes - c.reach_into-reach.result.bytes) c.self.inside.bytes.items,
      i.room,
      i.error_len,
      c.self.invariant.small,
    )

pub returns-clause-computed : goal.returns-clause-computed
returns-clause-computed g c =
    rw (← c.self.view_is) (goes_out _ c.args.bytes c.args.tokens c.min-first.result c.reach_into-reach.result
    c.self.invariant.kept c.min-first.ensures c.reach_into-reach.ensures).taken

pub returns-clause-longest : goal.returns-clause-longest
returns-clause-longest g c =
    subst (λ (t : Amounts). Goes c.args.self.now c.args.bytes c.args.tokens t) (sym (returns-clause-computed g c))
    (goes_goes c.args.self.now c.args.bytes c.args.tokens)

pub returns-clause-leaving : goal.returns-clause-leaving
returns-clause-leaving g c =
    rw (← c.self.view_is) (goes_out _ c.args.bytes c.args.tokens c.min-first.result c.reach_into-reach.result
    c.self.invariant.kept c.min-first.ensures c.reach_into-reach.ensures).leaving
