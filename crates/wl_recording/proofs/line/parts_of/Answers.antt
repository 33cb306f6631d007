use Rattle.std.proofs.Common.{ℕ, List, ◌∷◌, ap, ◌∙◌}
use Rattle.wl_recording.specs.Line.{sign}
use Rattle.wl_recording.proofs.PieceLemmas.{parts_of}
use Rattle.wl_recording.proofs.line.parts_of.Goals as goal

pub returns-in_err-tokens-clause-parts : goal.returns-in_err-tokens-clause-parts
returns-in_err-tokens-clause-parts c = rw c.from_residual-in_err-tokens.ensures (λ piece told.
    let cut = parts_of c.args.line.now _ _ _ c.in_ok-direction.direction piece told c.in_ok-direction.ensures
    c.split_before.ensures.whole c.split_before.ensures.front c.split_before.ensures.rest in
    c.in_err-tokens.ensures piece.tokens (rw cut.1 at told.tokens))

pub returns-clause-parts : goal.returns-clause-parts
returns-clause-parts c = λ bytes spelled. record {
  digits = c.split_before.result.0.now;
  count = c.split_before.result.1.now;
  whole = c.in_ok-direction.ensures ∙ ap (λ (rest : List ℕ). sign c.in_ok-direction.direction ∷ 32 ∷ rest)
      c.split_before.ensures.whole;
  bytes = spelled;
  tokens = c.in_ok-tokens.ensures;
}

pub returns-clause-only : goal.returns-clause-only
returns-clause-only c = λ piece told.
    let cut = parts_of c.args.line.now _ _ _ c.in_ok-direction.direction piece told c.in_ok-direction.ensures
    c.split_before.ensures.whole c.split_before.ensures.front c.split_before.ensures.rest in
    rw cut.0 at told.bytes
