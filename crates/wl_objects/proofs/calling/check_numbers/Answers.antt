use Rattle.std.proofs.Common.{◌≡◌, ◌≤◌, ◌<◌, length, Some, drop, ap, ◌∙◌, sym, arith}
use Rattle.wl_wire.specs.declared.kind.Kind.TheVariants.{Int}
use Rattle.wl_objects.specs.Writing.{given, wrong_place, numbers_by}
use Rattle.wl_objects.proofs.Calls.{refused-wrong}
use Rattle.wl_objects.proofs.Words.{wrong-word-missing, wrong-word-kind, wrong-word-next, wrong-word-more}
use Rattle.wl_objects.proofs.Words.{wrong-word-none, words-long, words-pass}
use Rattle.wl_objects.proofs.calling.check_numbers.Goals as goal

pub returns-then-place-words-clause-err : goal.returns-then-place-words-clause-err
returns-then-place-words-clause-err c rows signature =
    let missing : length c.args.words.now ≤ c.kinds.place = omega (arith, c.if-place-words.true) in
    sym (refused-wrong c.args.limit c.kinds.place _ _ _ signature
    (sym c.kinds.invariant.right ∙ wrong-word-missing _ _ _ Int c.kinds-test.true missing))

pub returns-then-not-is_for_number-clause-err : goal.returns-then-not-is_for_number-clause-err
returns-then-not-is_for_number-clause-err c rows signature =
    let inside : c.kinds.place < length c.args.words.now =
    omega (arith, c.kinds.invariant.before, c.if-place-words.false) in
    sym (refused-wrong c.args.limit c.kinds.place _ _ _ signature
    (sym c.kinds.invariant.right
    ∙ wrong-word-kind _ _ _ Int c.kinds-test.true inside (sym (c.if-not-is_for_number.ensures _))))

pub kinds-preserved : goal.kinds-preserved
kinds-preserved c =
    let inside : c.kinds.place < length c.args.words.now =
    omega (arith, c.kinds.invariant.before, c.if-place-words.false) in
    record {
      before = omega (arith, inside);
      right = sym (wrong-word-next c.kinds.place c.args.kinds.now c.args.words.now Int c.kinds-test.true inside
          (sym (c.if-not-is_for_number.ensures _)))
          ∙ c.kinds.invariant.right;
    }

pub returns-then-kinds-words-clause-err : goal.returns-then-kinds-words-clause-err
returns-then-kinds-words-clause-err c rows signature =
    let end : c.kinds.place ≡ length c.args.kinds.now = omega arith in
    let more : wrong_place c.kinds.place (drop c.kinds.place c.args.kinds.now)
    (given (numbers_by (drop c.kinds.place c.args.kinds.now) (drop c.kinds.place c.args.words.now))) ≡ Some c.kinds.place =
    wrong-word-more _ _ _ c.kinds-test.false (omega arith) in
    sym (refused-wrong c.args.limit (length c.args.kinds.now) _ _ _ signature
    (sym c.kinds.invariant.right ∙ more ∙ ap Some end))

pub returns-then-len-limit-clause-err : goal.returns-then-len-limit-clause-err
returns-then-len-limit-clause-err c rows signature =
    let none = wrong-word-none c.kinds.place c.args.kinds.now c.args.words.now c.kinds-test.false (omega arith) in
    words-long c.args.limit rows c.args.kinds.now c.args.words.now signature
    (sym c.kinds.invariant.right ∙ none) (omega arith)

pub returns-clause-ok : goal.returns-clause-ok
returns-clause-ok c rows signature =
    let none = wrong-word-none c.kinds.place c.args.kinds.now c.args.words.now c.kinds-test.false (omega arith) in
    words-pass c.args.limit rows c.args.kinds.now c.args.words.now signature
    (sym c.kinds.invariant.right ∙ none) (omega arith)
