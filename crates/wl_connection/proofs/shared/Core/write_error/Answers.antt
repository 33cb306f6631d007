use Rattle.std.proofs.Common.{ℕ, true, List, length, ap, ◌∙◌, arith}
use Rattle.wl_message.specs.Outgoing.{with_error}
use Rattle.wl_objects.specs.Writing.{error_values}
use Rattle.wl_objects.proofs.Wholes.{length-message}
use Rattle.wl_connection.specs.Core.{Core}
use Rattle.wl_connection.specs.Sending.{with_error_event}
use Rattle.wl_connection.proofs.Messages.{whole}
use Rattle.wl_connection.proofs.shared.Core.write_error.Goals as goal

pub push_encoded_error-requires-clause-whole : goal.push_encoded_error-requires-clause-whole
push_encoded_error-requires-clause-whole g c =
    rw (c.new-message.ensures.message) (whole c.self.inside.outbox.limit 1 0
    (error_values c.args.object c.args.code c.args.text.now) (omega arith) (omega (arith, c.requires.short)))

pub push_encoded_error-requires-clause-short : goal.push_encoded_error-requires-clause-short
push_encoded_error-requires-clause-short g c = omega (
  arith,
  ap length c.new-message.ensures.message,
  length-message 1 0 (error_values c.args.object c.args.code c.args.text.now),
  c.requires.short,
)

pub push_encoded_error-requires-clause-store : goal.push_encoded_error-requires-clause-store
push_encoded_error-requires-clause-store g c = omega (
  arith,
  ap length c.new-message.ensures.message,
  length-message 1 0 (error_values c.args.object c.args.code c.args.text.now),
  c.requires.short,
  c.self.invariant.store,
)

pub returns : goal.returns
returns g c =
    let before : Core = record {
      tables = c.self.inside.tables.now;
      view = c.self.inside.objects;
      inbox = c.self.inside.inbox;
      outbox = c.self.inside.outbox;
      failed = c.self.inside.failed;
      read =
          c.self.inside.read;
    } in
    rw (c.push_encoded_error.ensures.outbox)
    (ap (λ (bytes : List ℕ). record before { outbox = with_error before.outbox bytes; failed = true })
    c.new-message.ensures.message
    ∙ ap (λ (core : Core). with_error_event core c.args.object c.args.code c.args.text.now) c.self.view_is)
