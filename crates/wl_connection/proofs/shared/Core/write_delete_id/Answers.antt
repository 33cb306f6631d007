use Rattle.std.proofs.Common.{◌≡◌, arith, ◌∙◌}
use Rattle.wl_message.specs.Outgoing.{with_message}
use Rattle.wl_objects.specs.Writing.{given, tokens_of}
use Rattle.wl_connection.specs.Core.{Core}
use Rattle.wl_connection.proofs.shared.Core.write_delete_id.Goals as goal

pub write_call-requires-clause-short : goal.write_call-requires-clause-short
write_call-requires-clause-short g c =
    let len : c.new.result.len ≡ 12 = c.new.ensures.len in
    omega (arith, len, c.args.self.now.outbox.limit.in_range.0)

pub returns : goal.returns
returns g c =
    let core : Core = c.args.self.now in
    c.write_call.ensures ∙ (λ i. record core {
      outbox = with_message core.outbox (c.new.ensures.message i) (tokens_of (given (c.new.ensures.args i)));
    })
