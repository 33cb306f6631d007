use Rattle.std.proofs.Common.{◌≡◌, false, ap, ◌∙◌, arith}
use Rattle.wl_message.specs.Outgoing.{with_error}
use Rattle.wl_message.proofs.Fronts.{all_fits}
use Rattle.wl_message.proofs.PartedQueue.{pushed_error, error_kept, boundaries_fit}
use Rattle.wl_message.proofs.outbox.Outbox.push_error.Goals as goal

pub push-requires-clause-room : goal.push-requires-clause-room
push-requires-clause-room g c =
    let o = c.self.inside in
    let i = c.self.invariant.kept in
    let f : o.has_error ≡ false = rw (← c.self.view_is) at c.requires.first in
    let z = i.no_error f in
    omega (
      arith,
      z,
      boundaries_fit o.boundaries.items i.each,
      i.bytes,
      i.room,
      c.self.invariant.reserved,
      c.self.invariant.boundaries_reserved,
    )

pub invariant_of-self : goal.invariant_of-self
invariant_of-self g c =
    let v = c.self.invariant in
    let i = v.kept in
    let f : c.self.inside.has_error ≡ false = rw (← c.self.view_is) at c.requires.first in
    let z = i.no_error f in
    let bytes = all_fits c.args.message.now _ _ c.fill_from_slice.ensures.count
    (omega (arith, z, i.room, c.requires.short, v.reserved)) in
    record {
      kept = rw (c.len-self-inside.ensures.len, c.fill_from_slice.ensures.items, bytes, c.push.ensures)
          (error_kept _ c.args.message.now i f c.requires.whole.size.header c.requires.short);
      small = v.small;
      few_tokens = v.few_tokens;
      reserved = rw (c.fill_from_slice.ensures.items) v.reserved;
      boundaries_reserved = rw (c.fill_from_slice.ensures.items, c.push.ensures) v.boundaries_reserved;
    }

pub returns : goal.returns
returns g c =
    let v = c.self.invariant in
    let i = v.kept in
    let f : c.self.inside.has_error ≡ false = rw (← c.self.view_is) at c.requires.first in
    let z = i.no_error f in
    let bytes = all_fits c.args.message.now _ _ c.fill_from_slice.ensures.count
    (omega (arith, z, i.room, c.requires.short, v.reserved)) in
    rw (c.len-self-inside.ensures.len, c.fill_from_slice.ensures.items, bytes, c.push.ensures)
    (pushed_error _ c.args.message.now i ∙ ap (λ w. with_error w c.args.message.now) c.self.view_is)
