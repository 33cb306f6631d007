use Rattle.std.proofs.Common.{◌≡◌, ◌++◌, sym, arith}
use Rattle.std.specs.Prelude.{codes, Some}
use Rattle.std.proofs.lemmas.Bool.Decides.{Decides-eqb}
use Rattle.std.proofs.lemmas.Slice.Eq.{strip_prefix_is}
use Rattle.wl_text.proofs.Numbers.{number_is}
use Rattle.wl_recording.specs.Line.{some_tokens}
use Rattle.wl_recording.proofs.PieceLemmas.{number_of-count}
use Rattle.wl_recording.proofs.line.read_tokens.Goals as goal

pub returns : goal.returns
returns c =
    let whole : c.args.count.now ≡ codes " +" ++ c.in_ok-digits.digits.now =
    strip_prefix_is Decides-eqb c.args.count.now (codes " +")
    (Some c.in_ok-digits.digits) c.in_ok-digits.ensures.cases in
    let value = number_is c.in_ok-digits.digits.now _ (sym c.in_ok-tokens.ensures) in
    some_tokens c.in_ok-digits.digits.now whole value.0 (grind arith) value.1 value.2 (grind arith) (grind arith)

pub returns-in_err-tokens : goal.returns-in_err-tokens
returns-in_err-tokens c = rw c.from_residual-in_err-tokens.ensures (λ tokens spelled.
    let whole : c.args.count.now ≡ codes " +" ++ c.in_ok-digits.digits.now =
    strip_prefix_is Decides-eqb c.args.count.now (codes " +")
    (Some c.in_ok-digits.digits) c.in_ok-digits.ensures.cases in
    let number = number_of-count c.args.count.now c.in_ok-digits.digits.now tokens whole spelled in
    let none = c.decimal_number.ensures in
    let was = c.in_err-tokens.was in
    cc)
