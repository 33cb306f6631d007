use Rattle.std.proofs.Common.{◌-◌, ◌≤◌, length, ap, ◌∙◌, arith}
use Rattle.wl_message.specs.Outgoing.{with_message}
use Rattle.wl_message.proofs.Fronts.{all_fits}
use Rattle.wl_message.proofs.PartedQueue.{bytes_wait, tokens_wait, pushed, pushed_kept, boundaries_fit}
use Rattle.wl_message.proofs.outbox.Outbox.push_fitting.Goals as goal

pub push-requires-clause-room : goal.push-requires-clause-room
push-requires-clause-room g c =
    let o = c.self.inside in
    let i = c.self.invariant.kept in
    let r : length c.args.message.now ≤ o.capacity - (length o.bytes.items - (o.error_to - o.error_from)) =
    rw (bytes_wait _ i) at (rw (← c.self.view_is) at c.requires.bytes) in
    omega (
      arith,
      r,
      boundaries_fit o.boundaries.items i.each,
      i.bytes,
      i.error_there,
      i.error_order,
      i.error_len,
      c.self.invariant.reserved,
      c.self.invariant.boundaries_reserved,
      c.requires.whole.size.header,
    )

pub invariant_of-self : goal.invariant_of-self
invariant_of-self g c =
    let o = c.self.inside in
    let v = c.self.invariant in
    let i = v.kept in
    let r : length c.args.message.now ≤ o.capacity - (length o.bytes.items - (o.error_to - o.error_from)) =
    rw (bytes_wait _ i) at (rw (← c.self.view_is) at c.requires.bytes) in
    let s : length c.args.tokens.now ≤ o.tokens.capacity - length o.tokens.items =
    rw (tokens_wait _ i) at (rw (← c.self.view_is) at c.requires.tokens) in
    let bytes = all_fits c.args.message.now _ _ c.fill_from_slice.ensures.count
    (omega (arith, r, i.error_there, i.error_order, i.error_len, v.reserved, c.requires.whole.size.header)) in
    let tokens = all_fits c.args.tokens.now _ _ c.fill_from_slice-2.ensures.count s in
    record {
      kept = rw (c.fill_from_slice.ensures.items, c.fill_from_slice-2.ensures.items, bytes, tokens, c.push.ensures)
          (pushed_kept _ c.args.message.now c.args.tokens.now i c.requires.whole.size.header
          (omega (arith, r, i.error_there, i.error_order, c.requires.whole.size.header))
          (omega (arith, s, i.token_room)));
      small = v.small;
      few_tokens = rw (c.fill_from_slice-2.ensures.items) v.few_tokens;
      reserved = rw (c.fill_from_slice.ensures.items) v.reserved;
      boundaries_reserved = rw (c.fill_from_slice.ensures.items, c.push.ensures) v.boundaries_reserved;
    }

pub returns : goal.returns
returns g c =
    let o = c.self.inside in
    let v = c.self.invariant in
    let i = v.kept in
    let r : length c.args.message.now ≤ o.capacity - (length o.bytes.items - (o.error_to - o.error_from)) =
    rw (bytes_wait _ i) at (rw (← c.self.view_is) at c.requires.bytes) in
    let s : length c.args.tokens.now ≤ o.tokens.capacity - length o.tokens.items =
    rw (tokens_wait _ i) at (rw (← c.self.view_is) at c.requires.tokens) in
    let bytes = all_fits c.args.message.now _ _ c.fill_from_slice.ensures.count
    (omega (arith, r, i.error_there, i.error_order, i.error_len, v.reserved, c.requires.whole.size.header)) in
    let tokens = all_fits c.args.tokens.now _ _ c.fill_from_slice-2.ensures.count s in
    rw (c.fill_from_slice.ensures.items, c.fill_from_slice-2.ensures.items, bytes, tokens, c.push.ensures)
    (pushed _ c.args.message.now c.args.tokens.now i
    ∙ ap (λ w. with_message w c.args.message.now c.args.tokens.now) c.self.view_is)
