use Rattle.std.proofs.Common.{◌∙◌, sym, ap}
use Rattle.wl_sigs.specs.Tables.{has_new_object}
use Rattle.wl_objects.specs.Seen.{received_of}
use Rattle.wl_objects.proofs.NewObjects.{made-nothing}
use Rattle.wl_objects.proofs.new_object.made_by_message.Goals as goal

pub returns-then-not-signature : goal.returns-then-not-signature
returns-then-not-signature c =
    let message = c.args.message.now in
    sym (made-nothing c.args.tables.now message.entry.version message.signature.now.kinds (received_of message).values
    (sym (ap has_new_object c.signature.view_is) ∙ sym c.signature.invariant.new_object ∙ c.if-not-signature.true))
