use Rattle.std.proofs.Common.{◌≡◌, ℕ, ◌-◌, ◌≤◌, ◌++◌, length, drop, refl, sym, ap, ◌∙◌, arith}
use Rattle.std.proofs.lemmas.List.{take_at, length-append, length-drop, length-take-le}
use Rattle.wl_wire.proofs.Overs.{over-rest}
use Rattle.wl_message.proofs.Fronts.{parts_len}
use Rattle.wl_message.proofs.queue.copy_parts.Goals as goal

pub slice_bounds-copy_from_slice-end : goal.slice_bounds-copy_from_slice-end
slice_bounds-copy_from_slice-end g c = omega
    (arith, parts_len c.first_in_parts.result.0.now c.first_in_parts.result.1.now c.args.ring.now.items (length c.args.to.now) c.first_in_parts.ensures c.requires)

pub slice_bounds-copy_from_slice-end-2 : goal.slice_bounds-copy_from_slice-end-2
slice_bounds-copy_from_slice-end-2 g c =
    let to = c.args.to.now in
    let parts = parts_len c.first_in_parts.result.0.now c.first_in_parts.result.1.now c.args.ring.now.items (length to) c.first_in_parts.ensures c.requires in
    sym (length-take-le (length c.first_in_parts.result.0.now) to (omega (arith, parts)))

pub copy_from_slice-requires : goal.copy_from_slice-requires
copy_from_slice-requires g c =
    let to = c.args.to.now in
    let parts = parts_len c.first_in_parts.result.0.now c.first_in_parts.result.1.now c.args.ring.now.items (length to) c.first_in_parts.ensures c.requires in
    length-take-le (length c.first_in_parts.result.0.now) to (omega (arith, parts))

pub copy_from_slice-requires-2 : goal.copy_from_slice-requires-2
copy_from_slice-requires-2 g c =
    let to = c.args.to.now in
    let first : ℕ = length c.first_in_parts.result.0.now in
    let rest = drop first to in
    let all = c.copy_from_slice.new.self ++ rest in
    let parts = parts_len c.first_in_parts.result.0.now c.first_in_parts.result.1.now c.args.ring.now.items (length to) c.first_in_parts.ensures c.requires in
    let long : length c.copy_from_slice.new.self ≡ first =
    c.copy_from_slice.ensures.len ∙ length-take-le first to (omega (arith, parts)) in
    let size : length all ≡ length to = omega
    (arith, length-append c.copy_from_slice.new.self rest, long, length-drop first to, parts) in
    let behind : length (drop first all) ≡ length all - first = length-drop first all in
    omega (arith, size, behind, length-take-le (length all - first) (drop first all) (omega (arith, behind)), parts)

pub returns : goal.returns
returns g c =
    let to = c.args.to.now in
    let parts = c.first_in_parts.result in
    let first : ℕ = length parts.0.now in
    let one = c.copy_from_slice.new.self in
    let two = c.copy_from_slice-2.new.self in
    let len = parts_len c.first_in_parts.result.0.now c.first_in_parts.result.1.now c.args.ring.now.items (length to) c.first_in_parts.ensures c.requires in
    let long : length one ≡ first = c.copy_from_slice.ensures.len ∙ length-take-le first to (omega (arith, len)) in
    let size : first ≤ length (one ++ drop first to) = omega (arith, length-append one (drop first to), long) in
    over-rest first _ (one ++ drop first to) two size refl
    ∙ ap (λ l. l ++ two) (take_at one (drop first to) first long)
    ∙ (λ i. c.copy_from_slice.ensures.after i ++ c.copy_from_slice-2.ensures.after i)
    ∙ c.first_in_parts.ensures
