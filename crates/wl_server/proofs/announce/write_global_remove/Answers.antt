use Rattle.std.proofs.Common.{ℕ, ◌≤◌, sym, subst, ◌∙◌}
use Rattle.wl_message.specs.Outgoing.{room_of, with_message}
use Rattle.wl_objects.specs.Writing.{given, tokens_of}
use Rattle.wl_connection.specs.Core.{Core}
use Rattle.wl_connection.proofs.Messages.{fits-bytes}
use Rattle.wl_server.proofs.announce.write_global_remove.Goals as goal

pub returns : goal.returns
returns g c =
    let core : Core = c.args.core.now in
    let message = c.new-message in (
      subst (λ (n : ℕ). n ≤ room_of core.outbox) message.ensures.len
          (fits-bytes core.outbox message.result.len 0 (sym c.if-not-fits.ensures)),
      c.write_call.ensures ∙ (λ i. record core {
        outbox = with_message core.outbox (message.ensures.message i) (tokens_of (given (message.ensures.args i)));
      }),
    )
