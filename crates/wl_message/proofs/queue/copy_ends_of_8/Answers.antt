use Rattle.std.proofs.Common.{◌≡◌, ℕ, ◌-◌, ◌≤◌, ◌++◌, length, take, drop, refl, ◌∙◌, arith}
use Rattle.std.proofs.lemmas.List.{length-append, length-drop, take_all}
use Rattle.wl_wire.proofs.Overs.{over-rest}
use Rattle.wl_message.proofs.Fronts.{ends_joined}
use Rattle.wl_message.proofs.queue.copy_ends_of_8.Goals as goal

pub returns : goal.returns
returns c =
    let from = c.args.from.now in
    let rest = drop 8 c.args.to.now in
    let first = c.copy_from_slice-3.new.self in
    let last = c.copy_from_slice-4.new.self in
    let tail : ℕ = length from - 8 in
    let size : tail ≤ length (first ++ rest) = omega
    (arith, length-append first rest, length-drop 8 c.args.to.now, c.requires.same, c.requires.few) in
    let whole : take (length from - tail) (drop tail from) ≡ drop tail from =
    take_all (length from - tail) (drop tail from) (omega (arith, length-drop tail from)) in
    over-rest tail _ (first ++ rest) last size refl
    ∙ (λ i. take tail ((c.copy_from_slice-3.ensures.after ∙ c.copy_from_slice.ensures.after) i ++ rest)
    ++ (c.copy_from_slice-4.ensures.after ∙ c.copy_from_slice-2.ensures.after ∙ whole) i)
    ∙ ends_joined from rest 8 tail (omega (arith, c.requires.few)) (omega (arith, c.requires.few))
