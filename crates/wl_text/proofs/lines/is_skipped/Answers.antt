use Rattle.std.proofs.Common.{◌≡◌, refl, ℕ, ◌<◌, ◌==◌, List, [], ◌∷◌, length, slice_index, ap, arith}
use Rattle.std.proofs.lemmas.Bool.{eqb-true, eq-eqb}
use Rattle.std.specs.Prelude.{IsTrue, ◌↔◌}
use Rattle.wl_text.specs.Lines.{IsSkipped, is_empty, is_comment, says_nothing}
use Rattle.wl_text.proofs.lines.is_skipped.Goals as goal

comments : (line : List ℕ) → 0 < length line → IsTrue (slice_index line 0 == 35) ↔ IsSkipped line
comments [] some = absurd (omega arith)
comments (byte ∷ rest) some = (
  λ is. is_comment rest (ap (λ (b : ℕ). b ∷ rest) (eqb-true _ _ is)),
  λ skipped. elim skipped [
    | is_empty none ↦ cc none
    | is_comment comment is ↦ eq-eqb _ _ (cc)
  ],
)

pub returns-else-is_empty-clause-skipped : goal.returns-else-is_empty-clause-skipped
returns-else-is_empty-clause-skipped c = comments c.args.line.now (grind (arith))

value : (line : List ℕ) → 0 < length line → (slice_index line 0 == 35) ≡ says_nothing line
value [] some = absurd (omega arith)
value (byte ∷ rest) some = refl

pub returns-else-is_empty-clause-value : goal.returns-else-is_empty-clause-value
returns-else-is_empty-clause-value c = value c.args.line.now (grind (arith))
