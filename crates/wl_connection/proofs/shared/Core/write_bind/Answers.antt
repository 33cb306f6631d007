use Rattle.std.proofs.Common.{◌≡◌, true, [], length, sym, subst, arith, ap, ◌∙◌}
use Rattle.wl_objects.specs.Writing.{bind_values, message_len, message_bytes}
use Rattle.wl_objects.proofs.Wholes.{length-message}
use Rattle.wl_connection.specs.Core.{Core}
use Rattle.wl_message.specs.Outgoing.{Outgoing}
use Rattle.wl_connection.specs.Sending.{fits, with_sent}
use Rattle.wl_connection.proofs.Messages.{fits-bytes, whole}
use Rattle.wl_connection.proofs.shared.Core.write_bind.Goals as goal

pub push_encoded-requires-clause-fits : goal.push_encoded-requires-clause-fits
push_encoded-requires-clause-fits g c =
    let len = c.requires.len in
    record { fits = c.requires.fits; short = omega arith }

pub push_encoded-requires-clause-whole : goal.push_encoded-requires-clause-whole
push_encoded-requires-clause-whole g c = whole c.self.inside.outbox.limit c.args.registry 0
    (bind_values c.args.name c.args.iface.now c.args.version c.args.id) (omega arith) c.requires.len

pub push_encoded-requires-clause-bytes : goal.push_encoded-requires-clause-bytes
push_encoded-requires-clause-bytes g c =
    let values = bind_values c.args.name c.args.iface.now c.args.version c.args.id in
    let len : length (message_bytes c.args.registry 0 values) ≡ message_len values =
    length-message c.args.registry 0 values in
    let room = subst (λ (core : Core). fits core.outbox (message_len values) 0 ≡ true)
    (sym c.self.view_is) c.requires.room in
    omega (arith, len, fits-bytes c.self.inside.outbox (message_len values) 0 room)

pub push_encoded-requires-clause-store : goal.push_encoded-requires-clause-store
push_encoded-requires-clause-store g c =
    let values = bind_values c.args.name c.args.iface.now c.args.version c.args.id in
    omega (arith, length-message c.args.registry 0 values, c.requires.len, c.self.invariant.store)

pub returns : goal.returns
returns g c =
    let values = bind_values c.args.name c.args.iface.now c.args.version c.args.id in
    let before : Core = record {
      tables = c.self.inside.tables.now;
      view = c.self.inside.objects;
      inbox = c.self.inside.inbox;
      outbox = c.self.inside.outbox;
      failed = c.self.inside.failed;
      read =
          c.self.inside.read;
    } in
    ap (λ (o : Outgoing). record before { outbox = o }) c.push_encoded.ensures.outbox
    ∙ ap (λ (core : Core). with_sent core c.args.registry 0 values []) c.self.view_is
