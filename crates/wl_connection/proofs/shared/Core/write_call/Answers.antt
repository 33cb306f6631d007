use Rattle.std.proofs.Common.{◌≡◌, ◌≤◌, length, true, sym, ap, subst, arith}
use Rattle.wl_message.specs.Outgoing.{room_of}
use Rattle.wl_connection.specs.Core.{Core}
use Rattle.wl_connection.specs.Sending.{fits}
use Rattle.wl_connection.proofs.Messages.{fits-bytes}
use Rattle.wl_connection.proofs.Writes.{written_whole, written_within}
use Rattle.wl_connection.proofs.shared.Core.write_call.Goals as goal

pub push_encoded-requires-clause-whole : goal.push_encoded-requires-clause-whole
push_encoded-requires-clause-whole g c =
    let call = c.args.message.now in
    written_whole c.self.inside.outbox.limit call c.requires.fits
    (subst (λ (core : Core). call.len ≤ core.outbox.limit.bytes) (sym c.self.view_is) c.requires.short)

pub push_encoded-requires-clause-bytes : goal.push_encoded-requires-clause-bytes
push_encoded-requires-clause-bytes g c =
    let call = c.args.message.now in
    written_within (room_of c.self.inside.outbox) call c.requires.fits
    (fits-bytes c.self.inside.outbox call.len c.args.tokens
    (subst (λ (core : Core). fits core.outbox call.len c.args.tokens ≡ true) (sym c.self.view_is) c.requires.room))

pub push_encoded-requires-clause-store : goal.push_encoded-requires-clause-store
push_encoded-requires-clause-store g c =
    let call = c.args.message.now in
    let short : call.len ≤ c.self.inside.outbox.limit.bytes =
    subst (λ (core : Core). call.len ≤ core.outbox.limit.bytes) (sym c.self.view_is) c.requires.short in
    written_within (length c.deref_mut.result.now) call c.requires.fits
    (omega (arith, short, c.self.invariant.room, ap length c.deref_mut.ensures.value))

pub push_encoded-requires-2-clause-whole : goal.push_encoded-requires-2-clause-whole
push_encoded-requires-2-clause-whole g c =
    let call = c.args.message.now in
    written_whole c.self.inside.outbox.limit call c.requires.fits
    (subst (λ (core : Core). call.len ≤ core.outbox.limit.bytes) (sym c.self.view_is) c.requires.short)

pub push_encoded-requires-2-clause-bytes : goal.push_encoded-requires-2-clause-bytes
push_encoded-requires-2-clause-bytes g c =
    let call = c.args.message.now in
    written_within (room_of c.self.inside.outbox) call c.requires.fits
    (fits-bytes c.self.inside.outbox call.len c.args.tokens
    (subst (λ (core : Core). fits core.outbox call.len c.args.tokens ≡ true) (sym c.self.view_is) c.requires.room))

pub push_encoded-requires-2-clause-store : goal.push_encoded-requires-2-clause-store
push_encoded-requires-2-clause-store g c =
    let call = c.args.message.now in
    let short : call.len ≤ c.self.inside.outbox.limit.bytes =
    subst (λ (core : Core). call.len ≤ core.outbox.limit.bytes) (sym c.self.view_is) c.requires.short in
    written_within (length c.deref_mut-2.result.now) call c.requires.fits
    (omega (arith, short, c.self.invariant.room, ap length c.deref_mut-2.ensures.value))
