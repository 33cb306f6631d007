use Rattle.std.proofs.Common.{◌≡◌, [], replicate, arith, rules, ◌∙◌}
use Rattle.std.proofs.lemmas.List.{map-append}
use Rattle.std.proofs.lemmas.List.Elements.{All-push}
use Rattle.hex.specs.Hex.{IsBytes}
use Rattle.wl_recording.specs.Piece.{IsTellable}
use Rattle.wl_recording.proofs.FillLemmas.{zeros_small}
use Rattle.wl_recording.proofs.WriteLemmas.{tellable_with}
use Rattle.wl_recording.proofs.recording.Recording.prepare.Goals as goal
use Rattle.wl_recording.proofs.recording.Recording.prepare.Goals.{then-tokens-gt-MOST_TOKENS}
use Rattle.wl_recording.proofs.recording.Recording.prepare.Goals.{else-tokens-gt-MOST_TOKENS}

pub invariant_of-self-2 : goal.invariant_of-self-2
invariant_of-self-2 g c =
    let small : IsBytes (replicate c.args.len 0) = zeros_small c.args.len in
    let made : c.in_ok-vec.field-0.items ≡ replicate c.args.len 0 = search rules in
    let zeros = c.from_vec-zeros.ensures ∙ made in
    let requires = c.requires in
    elim c.if-tokens-gt-MOST_TOKENS.branch [
      | then-tokens-gt-MOST_TOKENS w ↦
          rw (
            c.push_reserved-2.ensures.items,
            w.self-inside-is,
            w.push_reserved.ensures.items,
            c.in_ok-reserve.ensures.items,
            map-append,
            map-append,
          )
          (All-push IsTellable _ _
          (All-push IsTellable _ _ c.self.invariant
          (tellable_with c.args.direction _ [] 65535 (c.from_vec-none.ensures ∙ c.new.ensures.items) (λ k. omega arith)
          (omega arith)))
          (tellable_with c.args.direction _ _ _ zeros small (omega (arith, w.tokens-is))))
      | else-tokens-gt-MOST_TOKENS w ↦
          rw (c.push_reserved-2.ensures.items, w.self-inside-is, c.in_ok-reserve.ensures.items, map-append)
          (All-push IsTellable _ _ c.self.invariant
          (tellable_with c.args.direction _ _ _ zeros small
          (omega (arith, w.tokens-is, w.if-tokens-gt-MOST_TOKENS.false))))
    ]
