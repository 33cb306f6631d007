use Rattle.std.proofs.Common.{◌≡◌, ◌≤◌, ◌<◌, ◌+◌, length, Some, drop, get_or, refl, ap, ◌∙◌, sym, arith}
use Rattle.std.specs.Option.{option_or}
use Rattle.wl_wire.specs.declared.kind.Kind.TheVariants.{Int}
use Rattle.wl_object_map.specs.Objects.{look}
use Rattle.wl_objects.specs.Writing.{given, wrong_place, lost_place, call_makes}
use Rattle.wl_objects.proofs.Calls.{wrong-missing, wrong-more, wrong-next, refused-wrong, lost-next}
use Rattle.wl_objects.proofs.Calls.{or-or, len-next, range-next, tokens-next, makes-next}
use Rattle.wl_objects.proofs.Calls.{number-suits, number-lost, number-len, number-tokens, number-makes}
use Rattle.wl_objects.proofs.calling.measure.Goals as goal

pub returns-in_default-2-clause-answer : goal.returns-in_default-2-clause-answer
returns-in_default-2-clause-answer g c signature =
    let missing : length c.args.args.now ≤ c.kinds.place = rw c.in_default.is at c.get.ensures.lookup.3 in
    refused-wrong c.args.limit c.kinds.place _ _ _ signature
    (sym c.kinds.invariant.right ∙ wrong-missing _ _ _ Int c.kinds-test.true missing)

pub returns-then-kinds-args-clause-answer : goal.returns-then-kinds-args-clause-answer
returns-then-kinds-args-clause-answer g c signature =
    let end : c.kinds.place ≡ length c.args.kinds.now = omega arith in
    let more : wrong_place c.kinds.place (drop c.kinds.place c.args.kinds.now)
    (given (drop c.kinds.place c.args.args.now)) ≡ Some c.kinds.place =
    wrong-more _ _ _ c.kinds-test.false (omega arith) in
    refused-wrong c.args.limit (length c.args.kinds.now) _ _ _ signature
    (sym c.kinds.invariant.right ∙ more ∙ ap Some end)

-- for a number argument only the length counts
pub kinds-preserved-in-Some : goal.kinds-preserved-in-Some
kinds-preserved-in-Some g c =
    let i = c.kinds.place in
    let list = c.args.args.now in
    let a = c.in-Some.arg.now in
    let inside : i < length list = c.in-Some.ensures.lookup.3.0 in
    let at : a ≡ get_or list i a = c.in-Some.ensures.lookup.1 in
    let rows = look c.args.objects.now in
    let number = c.if-is_number.ensures.given refl in
    let four = number-len number in
    let none = number-tokens number in
    let len = len-next i list a inside at in
    let tokens = tokens-next i list a inside at in
    record {
      before = omega arith;
      right = sym (wrong-next i c.args.kinds.now list Int a c.kinds-test.true inside at (number-suits number))
          ∙ c.kinds.invariant.right;
      lost = ap (option_or c.kinds.lost) (sym (lost-next rows i c.args.kinds.now list Int a c.kinds-test.true inside at
          ∙ rw (number-lost rows i number) refl))
          ∙ c.kinds.invariant.lost;
      least = omega (arith, len, four, c.kinds.invariant.least);
      exact = λ short. (let before = c.kinds.invariant.exact (omega arith) in omega (arith, len, four));
      in_range = λ short more. c.kinds.invariant.in_range (omega arith)
          (range-next i list a inside at (c.if-is_number.ensures.in_range refl) more);
      bounded = omega (arith, c.kinds.invariant.bounded);
      tokens = omega (arith, tokens, none, c.kinds.invariant.tokens);
      few = omega (arith, c.kinds.invariant.few);
      makes = ap (option_or c.kinds.makes) (sym (makes-next i c.args.kinds.now Int c.kinds-test.true
          ∙ rw (number-makes number) refl))
          ∙ c.kinds.invariant.makes;
    }

pub kinds-preserved : goal.kinds-preserved
kinds-preserved g c =
    let i = c.kinds.place in
    let list = c.args.args.now in
    let a = c.in-Some.arg.now in
    let inside : i < length list = c.in-Some.ensures.lookup.3.0 in
    let at : a ≡ get_or list i a = c.in-Some.ensures.lookup.1 in
    let rows = look c.args.objects.now in
    let len = len-next i list a inside at in
    let tokens = tokens-next i list a inside at in
    record {
      before = omega arith;
      right = sym (wrong-next i c.args.kinds.now list Int a c.kinds-test.true inside at (sym c.if-suits.ensures))
          ∙ c.kinds.invariant.right;
      lost = ap (λ o. option_or o (lost_place rows (i + 1) (drop (i + 1) c.args.kinds.now) (given (drop (i + 1) list))))
          (c.or-lost.ensures ∙ ap (option_or c.kinds.lost) c.lost_at.ensures)
          ∙ or-or c.kinds.lost _ _
          ∙ ap (option_or c.kinds.lost) (sym (lost-next rows i c.args.kinds.now list Int a c.kinds-test.true inside at))
          ∙ c.kinds.invariant.lost;
      least = omega (arith, len, c.len_of-len.ensures.most, c.kinds.invariant.least);
      exact = λ short. (let here = c.len_of-len.ensures.exact (omega arith)
          in let before = c.kinds.invariant.exact (omega arith) in omega (arith, len));
      in_range = λ short more. c.kinds.invariant.in_range (omega arith)
          (range-next i list a inside at (c.len_of-len.ensures.in_range (omega arith)) more);
      bounded = omega (arith, c.len_of-len.ensures.bounded, c.kinds.invariant.bounded);
      tokens = omega (arith, tokens, c.token_count-tokens.ensures.count, c.kinds.invariant.tokens);
      few = omega (arith, c.token_count-tokens.ensures.one, c.kinds.invariant.few);
      makes = ap (λ o. option_or o (call_makes (drop (i + 1) c.args.kinds.now)))
          (c.or-makes.ensures ∙ ap (option_or c.kinds.makes) c.new_iface.ensures)
          ∙ or-or c.kinds.makes _ _
          ∙ ap (option_or c.kinds.makes) (sym (makes-next i c.args.kinds.now Int c.kinds-test.true))
          ∙ c.kinds.invariant.makes;
    }
