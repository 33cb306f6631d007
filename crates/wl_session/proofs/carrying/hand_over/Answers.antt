use Rattle.std.proofs.Common.{◌∙◌, ap, sym, subst, ◌≡◌}
use Rattle.wl_message.specs.Outgoing.{waiting_bytes, waiting_tokens}
use Rattle.wl_message.specs.declared.amounts.Amounts.{Amounts}
use Rattle.wl_connection.specs.Core.{feeds, with_arrived}
use Rattle.theory_connection.specs.Pair.{carried_bytes, carried_tokens}
use Rattle.wl_session.specs.Room.{filled}
use Rattle.wl_session.proofs.CarriedPieces.{lengths_are, written, arrived_is}
use Rattle.wl_session.proofs.carrying.hand_over.Goals as goal

pub returns-clause-to : goal.returns-clause-to
returns-clause-to g c =
    let t = c.take-taken.result in
    let from = g.W.End.core c.args.from.now in
    let to = g.R.End.core c.args.to.now in
    let l = lengths_are from _ _ t c.take-taken.ensures.taken in
    let all = subst (λ (x : Amounts). feeds to (carried_bytes from x) (carried_tokens from x) ≡ x)
    (sym c.take-taken.ensures.taken) c.requires.fits in
    let bytes = written t.bytes (waiting_bytes from.outbox) _ _ l.bytes c.take-taken.ensures.bytes in
    let tokens = written t.tokens (waiting_tokens from.outbox) _ _ l.tokens c.take-taken.ensures.tokens in
    c.feed.ensures.state ∙ ap (g.R.End.with_core c.args.to.now)
    (arrived_is from to t _ _ _ l all bytes tokens c.feed.ensures.fed)
    ∙ ap (λ (x : Amounts). g.R.End.with_core c.args.to.now
    (with_arrived to (carried_bytes from x) (carried_tokens from x))) c.take-taken.ensures.taken

pub returns-clause-recording : goal.returns-clause-recording
returns-clause-recording g c =
    let t = c.take-taken.result in
    let from = g.W.End.core c.args.from.now in
    let l = lengths_are from _ _ t c.take-taken.ensures.taken in
    c.fill.ensures ∙ ap (filled c.args.recording.now)
    (written t.bytes (waiting_bytes from.outbox) _ _ l.bytes c.take-taken.ensures.bytes
    ∙ ap (carried_bytes from) c.take-taken.ensures.taken)
