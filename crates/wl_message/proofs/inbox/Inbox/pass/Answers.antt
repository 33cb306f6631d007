use Rattle.std.proofs.Common.{◌≡◌, ◌≤◌, ◌-◌, ℕ, List, length, take, drop, ap, sym, ◌∙◌, arith}
use Rattle.std.proofs.lemmas.List.{with_items_is}
use Rattle.circular_buffer.specs.Buffer.{Buffer, buffer}
use Rattle.wl_message.specs.Arrived.{Arrived, without_first, in_front}
use Rattle.wl_message.specs.Cut.{front, message_size}
use Rattle.wl_message.proofs.Fronts.{has_message, keep_rest}
use Rattle.wl_message.proofs.inbox.Inbox.pass.Goals.{then-tokens-gt0, else-tokens-gt0}
use Rattle.wl_message.proofs.inbox.Inbox.pass.Goals as goal

pub returns : goal.returns
returns g c =
    let i = c.self.inside in
    let s = c.if-tokens-gt0.self-inside in
    let n : ℕ = c.copy_message-size.result in
    let t : ℕ = c.args.tokens in
    let has = has_message i.limit.bytes i.bytes.items (rw (← c.self.view_is) at c.requires.message) in
    let m : message_size (front i.limit.bytes i.bytes.items) ≡ n = has.told ∙ sym c.copy_message-size.ensures.size in
    let there : n ≤ length i.bytes.items = omega (arith, m, has.there) in
    let value = c.deref_mut.ensures.value in
    let new = with_items_is i.message c.copy_message-size.new.store
    (omega (arith, i.message.ok.0, ap length value, c.copy_message-size.ensures.room)) in
    let bytes : s.bytes ≡ i.bytes = elim c.if-tokens-gt0.branch [
      | then-tokens-gt0 w ↦ (λ d. (w.self-inside-is d).bytes)
      | else-tokens-gt0 w ↦ (λ d. (w.self-inside-is d).bytes)
    ] in
    let limit : s.limit ≡ i.limit = elim c.if-tokens-gt0.branch [
      | then-tokens-gt0 w ↦ (λ d. (w.self-inside-is d).limit)
      | else-tokens-gt0 w ↦ (λ d. (w.self-inside-is d).limit)
    ] in
    let message : s.message.items ≡ c.copy_message-size.new.store = elim c.if-tokens-gt0.branch [
      | then-tokens-gt0 w ↦ (λ d. (w.self-inside-is d).message.items) ∙ new
      | else-tokens-gt0 w ↦ (λ d. (w.self-inside-is d).message.items) ∙ new
    ] in
    let tokens : s.tokens ≡ buffer (drop t i.tokens.items) i.tokens.capacity = elim c.if-tokens-gt0.branch [
      | then-tokens-gt0 w ↦ (λ d. (w.self-inside-is d).tokens) ∙ w.move_front.ensures.ring
      | else-tokens-gt0 w ↦
          (let none : 0 ≡ t = omega (arith, w.if-tokens-gt0.false) in
          (λ d. (w.self-inside-is d).tokens)
          ∙ ap (λ (k : ℕ). buffer (drop k i.tokens.items) i.tokens.capacity) none)
    ] in
    let last : s.last_tokens.items ≡ take t i.tokens.items = elim c.if-tokens-gt0.branch [
      | then-tokens-gt0 w ↦
          (λ d. (w.self-inside-is d).last_tokens.items) ∙ w.move_front.ensures.items
      | else-tokens-gt0 w ↦
          (let none : 0 ≡ t = omega (arith, w.if-tokens-gt0.false) in
          (λ d. (w.self-inside-is d).last_tokens.items) ∙ c.clear.ensures.items
          ∙ ap (λ (k : ℕ). take k i.tokens.items) none)
    ] in
    let size : c.len.result ≡ length i.bytes.items =
    c.len.ensures.len ∙ ap (λ (b : Buffer ℕ). length b.items) bytes in
    let rest = keep_rest i.bytes.items n _ (ap (λ (k : ℕ). k - n) size) there in
    let v : Arrived = record {
      bytes = i.bytes.items;
      tokens = i.tokens.items;
      capacity = i.bytes.capacity;
      token_capacity = i.tokens.capacity;
      limit = i.limit;
      last = drop 8 (take i.last_len i.last.items);
      last_tokens = i.last_tokens.items;
    } in
    rw (c.truncate_front.ensures, c.swap.ensures.y_after, bytes, rest, limit, message, tokens, last)
    (ap (λ (l : List ℕ). record {
      bytes = drop n i.bytes.items;
      tokens = drop t i.tokens.items;
      capacity = i.bytes.capacity;
      token_capacity = i.tokens.capacity;
      limit = i.limit;
      last = drop 8 l;
      last_tokens = take t i.tokens.items;
    }) c.copy_message-size.ensures.copy
    ∙ ap (λ (k : ℕ). without_first v k t) (sym m)
    ∙ ap (λ (a : Arrived). without_first a (message_size (in_front a)) t) c.self.view_is)
