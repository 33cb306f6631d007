use Rattle.std.proofs.Common.{◌≡◌, ℕ, ◌≤◌, List, [], ap, sym, subst, ◌∙◌}
use Rattle.wl_message.specs.Outgoing.{room_of, with_message}
use Rattle.wl_objects.specs.Writing.{given, global_values, message_len, tokens_of}
use Rattle.wl_connection.specs.Core.{Core}
use Rattle.wl_connection.specs.Sending.{with_sent}
use Rattle.wl_connection.proofs.Messages.{fits-bytes}
use Rattle.wl_server.specs.State.{Global}
use Rattle.wl_server.specs.Announcing.{name_at}
use Rattle.wl_server.proofs.announce.write_global.Goals as goal

pub returns : goal.returns
returns g c =
    let core : Core = c.args.core.now in
    let message = c.new-message in
    let text : c.name_at-iface.result.now ≡ name_at core.tables c.global.inside.iface =
    c.name_at-iface.ensures.name ∙ ap (λ (s : Core). name_at s.tables c.global.inside.iface) c.core.view_is in (
      subst (λ (a : Global).
          message_len (global_values c.args.name (name_at core.tables a.iface) a.version) ≤ room_of core.outbox)
          c.global.view_is
          (subst (λ (n : ℕ). n ≤ room_of core.outbox)
          (message.ensures.len
          ∙ ap (λ (t : List ℕ). message_len (global_values c.args.name t c.global.inside.version)) text)
          (fits-bytes core.outbox message.result.len 0 (sym c.if-not-fits.ensures))),
      subst (λ (a : Global). c.write_call.new.self
          ≡ with_sent core c.args.registry 0
          (global_values c.args.name (name_at core.tables a.iface) a.version) [])
          c.global.view_is
          (subst (λ (t : List ℕ). c.write_call.new.self
          ≡ with_sent core c.args.registry 0 (global_values c.args.name t c.global.inside.version) [])
          text
          (c.write_call.ensures ∙ (λ i. record core {
            outbox = with_message core.outbox (message.ensures.message i) (tokens_of (given (message.ensures.args i)));
          }))),
    )
