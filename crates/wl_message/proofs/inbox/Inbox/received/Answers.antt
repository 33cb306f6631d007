use Rattle.std.proofs.Common.{◌≤◌, length, take, ap, arith}
use Rattle.std.proofs.lemmas.List.{length-take-le}
use Rattle.wl_message.specs.Arrived.{Arrived, with_more}
use Rattle.wl_message.proofs.Fronts.{all_fits}
use Rattle.wl_message.proofs.inbox.Inbox.received.Goals as goal

pub returns-clause-waits : goal.returns-clause-waits
returns-clause-waits g c =
    let n = c.min-byte_count.result in
    let space = c.deref.result.now in
    let tokens = take c.fill_from_slice-token_count.result c.args.tokens.now in
    let there : n ≤ length space = omega (
      arith,
      c.min-byte_count.ensures,
      c.capacity.ensures.capacity,
      c.self.invariant.space,
      ap length c.deref.ensures.value,
    ) in
    let size = length-take-le n space there in
    let all = all_fits (take n space) _ _ c.fill_from_slice.ensures.count
    (omega (arith, size, c.min-byte_count.ensures, c.capacity.ensures.capacity, c.len.ensures.len)) in
    record {
      bytes = take n space;
      count = size;
      behind = rw (c.fill_from_slice.ensures.items, all, c.fill_from_slice-token_count.ensures.items)
          (ap (λ (a : Arrived). with_more a (take n space) tokens) c.self.view_is);
    }
