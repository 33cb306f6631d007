use Rattle.std.proofs.Common.{◌≡◌, ◌-◌, [], length, take, drop, refl, ap, sym, ◌∙◌}
use Rattle.std.proofs.Common.{arith, length-append}
use Rattle.std.proofs.lemmas.List.{drop_all, length-drop, length-take}
use Rattle.wl_message.specs.Outgoing.{Outgoing, waiting_tokens}
use Rattle.wl_connection.proofs.TwoParts.{all_taken, both_written}
use Rattle.wl_connection.proofs.shared.Core.take_waiting_tokens.Goals as goal

pub returns-clause-tokens : goal.returns-clause-tokens
returns-clause-tokens g c =
    let unread = c.take_tokens-unread in
    let unsent = c.take_tokens-unsent in
    let few = unsent.ensures.longest.with_tokens in
    let within = unsent.ensures.longest.may.tokens_within in
    rw (← c.self.view_is)
    (both_written c.self.inside.inbox.tokens (waiting_tokens c.self.inside.outbox) c.args.tokens.now unread.new.tokens
    unsent.new.tokens unread.result unsent.result.tokens
    unread.ensures.count unread.ensures.tokens (omega (arith, few, within)) unsent.ensures.tokens)

pub returns-clause-all : goal.returns-clause-all
returns-clause-all g c = rw (← c.self.view_is) (λ enough.
    let unread = c.take_tokens-unread in
    let unsent = c.take_tokens-unsent in
    let count = unread.ensures.count in
    let both = length-append c.self.inside.inbox.tokens (waiting_tokens c.self.inside.outbox) in
    let l = ap (λ l. length l) unread.ensures.tokens
    ∙ length-append (take unread.result c.self.inside.inbox.tokens) (drop unread.result c.args.tokens.now) in
    let place = length-take (length unread.new.tokens - unread.result) (drop unread.result unread.new.tokens) in
    let gone = unsent.ensures.all (omega (
      arith,
      enough,
      count,
      both,
      l,
      place,
      length-drop unread.result
          unread.new.tokens,
      length-drop unread.result c.args.tokens.now,
      length-take unread.result
          c.self.inside.inbox.tokens,
    )) in
    let none : waiting_tokens unsent.new.self ≡ [] = gone.1 in
    let taken = all_taken c.self.inside.outbox _ _ unsent.result unsent.ensures.longest
    (ap (λ (o : Outgoing). waiting_tokens o) (sym unsent.ensures.rest) ∙ none) in
    let empty : drop unread.result c.self.inside.inbox.tokens ≡ [] =
    drop_all unread.result c.self.inside.inbox.tokens (omega (arith, enough, count, both)) in
    (omega (arith, taken, count, both, enough), (rw (unread.ensures.rest, none, empty) refl), gone.0))
