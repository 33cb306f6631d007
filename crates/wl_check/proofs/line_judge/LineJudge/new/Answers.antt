use Rattle.std.proofs.Common.{◌∙◌, [], refl}
use Rattle.wl_check.proofs.line_judge.LineJudge.new.Goals.{then-prints_lines, else-prints_lines}
use Rattle.wl_check.proofs.line_judge.LineJudge.new.Goals as goal

pub invariant_of-result : goal.invariant_of-result
invariant_of-result g c = record { begun = λ same. ∣ ([], c.in_ok-new.ensures.none c.args.limit.bytes) ∣₁ }

pub returns : goal.returns
returns g c = record {
  limit_is = refl;
  tables_are = refl;
  prints = elim c.if-prints_lines.branch [
    | then-prints_lines w ↦ w.output-is ∙ (rw w.if-prints_lines.true refl)
    | else-prints_lines w ↦ w.output-is ∙ (rw w.if-prints_lines.false refl)
  ];
  stands = refl;
  after = c.in_ok-new.ensures.none c.args.limit.bytes;
}
