use Rattle.std.proofs.Common.{◌≤◌, arith, rules}
use Rattle.std.proofs.lemmas.List.{length-take}
use Rattle.hello.proofs.Amounts.{taken_bytes, taken_tokens}
use Rattle.hello.proofs.to_server.Goals as goal

pub slice_bounds-sent-end : goal.slice_bounds-sent-end
slice_bounds-sent-end c =
    let h = taken_bytes _ _ _ _ c.take-taken.ensures.taken in
    omega (arith, h, c.take-taken.auto.bytes)

pub slice_bounds-sent-end-2 : goal.slice_bounds-sent-end-2
slice_bounds-sent-end-2 c =
    let h = taken_bytes _ _ _ _ c.take-taken.ensures.taken in
    omega (arith, h, c.take-taken.auto.bytes, length-take c.take-taken.result.bytes c.take-taken.new.bytes)

pub slice_bounds-descriptors-end : goal.slice_bounds-descriptors-end
slice_bounds-descriptors-end c =
    let h = taken_tokens _ _ _ _ c.take-taken.ensures.taken in
    omega (arith, h, c.take-taken.auto.tokens)

pub slice_bounds-descriptors-end-2 : goal.slice_bounds-descriptors-end-2
slice_bounds-descriptors-end-2 c =
    let h = taken_tokens _ _ _ _ c.take-taken.ensures.taken in
    omega (arith, h, c.take-taken.auto.tokens, length-take c.take-taken.result.tokens c.take-taken.new.tokens)

pub overflow_cast-taken : goal.overflow_cast-taken
overflow_cast-taken c =
    let h = taken_tokens _ _ _ _ c.take-taken.ensures.taken in
    let few : c.take-taken.result.tokens ≤ 65536 = omega (arith, h, c.requires) in
    search (rules, few)

pub add-requires : goal.add-requires
add-requires c =
    let h = taken_tokens _ _ _ _ c.take-taken.ensures.taken in
    omega (arith, h, c.requires)
