use Rattle.std.proofs.Common.{◌≡◌, ℕ, ℤ, List, ap, subst, ◌∙◌, FitsSigned, w32, to_z, of_z, rules}
use Rattle.std.specs.Prelude.{nat_abs}
use Rattle.std.specs.Fmt.{HasWritten}
use Rattle.std.proofs.Math.Facts.{to_z-of_z}
use Rattle.wl_wire.specs.Units.{sign_of, fixed_text}
use Rattle.wl_wire.proofs.Texts.{sign_below, sign_above, text_shown}
use Rattle.wl_wire.proofs.fixed.FixedDisplay.fmt.Goals as goal
use Rattle.wl_wire.proofs.fixed.FixedDisplay.fmt.Goals.{then-raw-lt0, else-raw-lt0}

pub returns-clause-writes : goal.returns-clause-writes
returns-clause-writes g c = λ plain ok.
    let raw : ℤ = c.raw-raw.result in
    let fits : FitsSigned w32 raw = search rules in
    let same : to_z w32 (of_z w32 raw) ≡ raw = to_z-of_z fits in
    let sign : c.if-raw-lt0.sign.now ≡ sign_of raw =
    elim c.if-raw-lt0.branch [
      | then-raw-lt0 w ↦ ap (λ r. r.now) w.sign-is ∙ sign_below _ w.if-raw-lt0.true ∙ ap sign_of same
      | else-raw-lt0 w ↦ ap (λ r. r.now) w.sign-is ∙ sign_above _ w.if-raw-lt0.false ∙ ap sign_of same
    ] in
    let size : c.unsigned_abs-size.result ≡ nat_abs raw = c.unsigned_abs-size.ensures.value ∙ ap nat_abs same in
    subst (λ (text : List ℕ). HasWritten {W = g.row.W.Denot} g.W.Write.write_str_gives c.args.f.now text
    c.write.new.self) (rw c.laid_out.ensures (text_shown raw c.if-raw-lt0.sign.now c.unsigned_abs-size.result sign
    size ∙ ap fixed_text c.raw-raw.ensures)) (c.write.ensures.writes plain ok)
