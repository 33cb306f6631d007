use Rattle.std.proofs.Common.{◌≡◌, ◌≤◌, ◌++◌, ℕ, List, length, take, drop, sym, subst, ap, ◌∙◌}
use Rattle.std.proofs.lemmas.List.{take_at}
use Rattle.wl_message.specs.Bounds.{max_error_len}
use Rattle.wl_message.specs.Cut.{IsMessage}
use Rattle.wl_message.specs.Outgoing.{with_error}
use Rattle.wl_message.proofs.outbox.Outbox.push_encoded_error.Goals as goal

pub push_error-requires-clause-short : goal.push_error-requires-clause-short
push_error-requires-clause-short g c =
    let message = g.E.Encode.message c.args.message.now in
    let n : ℕ = c.encoded_len-len.result in
    let long : length c.encode.new.out ≡ n = ap length c.encode.ensures ∙ sym c.encoded_len-len.ensures in
    let same : take n (c.encode.new.out ++ drop n c.args.store.now) ≡ message =
    take_at c.encode.new.out (drop n c.args.store.now) n long ∙ c.encode.ensures in
    subst (λ (m : List ℕ). length m ≤ max_error_len) (sym same) c.requires.short

pub push_error-requires-clause-whole : goal.push_error-requires-clause-whole
push_error-requires-clause-whole g c =
    let message = g.E.Encode.message c.args.message.now in
    let n : ℕ = c.encoded_len-len.result in
    let long : length c.encode.new.out ≡ n = ap length c.encode.ensures ∙ sym c.encoded_len-len.ensures in
    let same : take n (c.encode.new.out ++ drop n c.args.store.now) ≡ message =
    take_at c.encode.new.out (drop n c.args.store.now) n long ∙ c.encode.ensures in
    subst (λ (m : List ℕ). IsMessage c.args.self.now.limit.bytes m) (sym same) c.requires.whole

pub returns-clause-outbox : goal.returns-clause-outbox
returns-clause-outbox g c =
    let message = g.E.Encode.message c.args.message.now in
    let n : ℕ = c.encoded_len-len.result in
    let long : length c.encode.new.out ≡ n = ap length c.encode.ensures ∙ sym c.encoded_len-len.ensures in
    let same : take n (c.encode.new.out ++ drop n c.args.store.now) ≡ message =
    take_at c.encode.new.out (drop n c.args.store.now) n long ∙ c.encode.ensures in
    c.push_error.ensures ∙ ap (λ (m : List ℕ). with_error c.args.self.now m) same
