use Rattle.std.proofs.Common.{◌≡◌, ◌≤◌, ℕ, length, true, sym, ap, subst, arith}
use Rattle.wl_message.specs.Outgoing.{room_of}
use Rattle.wl_objects.specs.Writing.{message_len, words_on_wire}
use Rattle.wl_objects.proofs.Wholes.{length-message}
use Rattle.wl_connection.specs.Core.{Core}
use Rattle.wl_connection.specs.Sending.{fits}
use Rattle.wl_connection.proofs.Messages.{fits-bytes, whole_within}
use Rattle.wl_connection.proofs.shared.Core.write_words.Goals as goal

pub push_encoded-requires-clause-whole : goal.push_encoded-requires-clause-whole
push_encoded-requires-clause-whole g c =
    let m = c.args.message.now in
    let values = words_on_wire m.words.now in
    whole_within c.self.inside.outbox.limit m.object m.opcode values c.requires.fits.opcode
    (subst (λ (core : Core). message_len values ≤ core.outbox.limit.bytes) (sym c.self.view_is) c.requires.short)

pub push_encoded-requires-clause-bytes : goal.push_encoded-requires-clause-bytes
push_encoded-requires-clause-bytes g c =
    let m = c.args.message.now in
    let values = words_on_wire m.words.now in
    subst (λ (n : ℕ). n ≤ room_of c.self.inside.outbox) (sym (length-message m.object m.opcode values))
    (fits-bytes c.self.inside.outbox (message_len values) 0
    (subst (λ (core : Core). fits core.outbox (message_len values) 0 ≡ true) (sym c.self.view_is) c.requires.room))

pub push_encoded-requires-clause-store : goal.push_encoded-requires-clause-store
push_encoded-requires-clause-store g c =
    let m = c.args.message.now in
    let values = words_on_wire m.words.now in
    let short : message_len values ≤ c.self.inside.outbox.limit.bytes =
    subst (λ (core : Core). message_len values ≤ core.outbox.limit.bytes) (sym c.self.view_is) c.requires.short in
    subst (λ (n : ℕ). n ≤ length c.deref_mut.result.now) (sym (length-message m.object m.opcode values))
    (omega (arith, short, c.self.invariant.room, ap length c.deref_mut.ensures.value))
