use Rattle.std.proofs.Common.{◌≡◌, ◌≤◌, ◌++◌, ℕ, List, length, take, drop, sym, subst, ap, ◌∙◌}
use Rattle.std.proofs.lemmas.List.{take_at}
use Rattle.wl_message.specs.Cut.{IsMessage}
use Rattle.wl_message.specs.Outgoing.{room_of, with_message}
use Rattle.wl_message.proofs.outbox.Outbox.push_encoded.Goals as goal

pub push_fitting-requires-clause-whole : goal.push_fitting-requires-clause-whole
push_fitting-requires-clause-whole g c =
    let message = g.E.Encode.message c.args.message.now in
    let n : ℕ = c.encoded_len-len.result in
    let long : length c.encode.new.out ≡ n = ap length c.encode.ensures ∙ sym c.encoded_len-len.ensures in
    let same : take n (c.encode.new.out ++ drop n c.args.store.now) ≡ message =
    take_at c.encode.new.out (drop n c.args.store.now) n long ∙ c.encode.ensures in
    subst (λ (m : List ℕ). IsMessage c.args.self.now.limit.bytes m) (sym same) c.requires.whole

pub push_fitting-requires-clause-bytes : goal.push_fitting-requires-clause-bytes
push_fitting-requires-clause-bytes g c =
    let message = g.E.Encode.message c.args.message.now in
    let n : ℕ = c.encoded_len-len.result in
    let long : length c.encode.new.out ≡ n = ap length c.encode.ensures ∙ sym c.encoded_len-len.ensures in
    let same : take n (c.encode.new.out ++ drop n c.args.store.now) ≡ message =
    take_at c.encode.new.out (drop n c.args.store.now) n long ∙ c.encode.ensures in
    subst (λ (m : List ℕ). length m ≤ room_of c.args.self.now) (sym same) c.requires.bytes

pub returns-clause-outbox : goal.returns-clause-outbox
returns-clause-outbox g c =
    let message = g.E.Encode.message c.args.message.now in
    let n : ℕ = c.encoded_len-len.result in
    let long : length c.encode.new.out ≡ n = ap length c.encode.ensures ∙ sym c.encoded_len-len.ensures in
    let same : take n (c.encode.new.out ++ drop n c.args.store.now) ≡ message =
    take_at c.encode.new.out (drop n c.args.store.now) n long ∙ c.encode.ensures in
    c.push_fitting.ensures ∙ ap (λ (m : List ℕ). with_message c.args.self.now m c.args.tokens.now) same
