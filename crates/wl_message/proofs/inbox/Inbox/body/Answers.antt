use Rattle.std.proofs.Common.{◌≡◌, ℕ, ◌-◌, length, take, drop, refl, ap, sym, ◌∙◌, arith}
use Rattle.std.proofs.lemmas.List.{length-drop, take_all, with_items_is}
use Rattle.wl_message.specs.Arrived.{Arrived, in_front}
use Rattle.wl_message.specs.Cut.{front, message_size}
use Rattle.wl_message.proofs.Fronts.{has_message}
use Rattle.wl_message.proofs.inbox.Inbox.body.Goals as goal

pub returns : goal.returns
returns g c =
    let i = c.self.inside in
    let n : ℕ = c.copy_message-size.result in
    let m : message_size (front i.limit.bytes i.bytes.items) ≡ n =
    (has_message i.limit.bytes i.bytes.items (rw (← c.self.view_is) at c.requires)).told
    ∙ sym c.copy_message-size.ensures.size in
    let value = c.deref_mut.ensures.value in
    let new = with_items_is i.message c.copy_message-size.new.store
    (omega (arith, i.message.ok.0, ap length value, c.copy_message-size.ensures.room)) in
    let first = take n c.deref.result.now in
    let body = take_all (length first - 8) (drop 8 first) (omega (arith, length-drop 8 first))
    ∙ (ap (λ l. drop 8 (take n l)) (c.deref.ensures.value ∙ new)
    ∙ ap (drop 8) c.copy_message-size.ensures.copy
    ∙ ap (λ (k : ℕ). drop 8 (take k i.bytes.items)) (sym m)
    ∙ ap (λ (a : Arrived). drop 8 (take (message_size (in_front a)) a.bytes)) c.self.view_is) in
    ((refl, λ _. tt, c.self.view_is), record { stays = tt; body = body })
