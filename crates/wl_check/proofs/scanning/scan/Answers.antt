use Rattle.std.proofs.Common.{◌≡◌, ◌+◌, ◌∷◌, ◌++◌, Some, List, [], map, slice_get, refl, sym, ap}
use Rattle.std.proofs.Common.{◌∙◌, subst, take, add-one, arith}
use Rattle.wl_recording.specs.Piece.{Piece, recorded_piece}
use Rattle.wl_check.specs.Printed.{piece_of}
use Rattle.wl_check.specs.Session.{session_of, IsVerdictOf}
use Rattle.wl_check.specs.SessionState.{AfterPieces}
use Rattle.wl_check.proofs.MergedPiece.{read_mapped}
use Rattle.wl_check.proofs.PrintedSoFar.{written_more, written_none}
use Rattle.wl_check.proofs.SessionByPiece.{take_mapped, take_more}
use Rattle.wl_check.proofs.scanning.scan.Goals as goal

pub pieces-init : goal.pieces-init
pieces-init g c = record {
  after = c.in_ok-scanner.ensures.none c.args.limit.bytes;
  text = written_none c.args.limit.bytes c.args.tables.now c.args.output c.new-lines.result.items
      c.new-lines.ensures.items;
  output = refl;
}

pub judge-requires-clause-after : goal.judge-requires-clause-after
judge-requires-clause-after g c =
    ∣ (take c.pieces.piece-index (map recorded_piece c.args.pieces.now), c.pieces.invariant.after) ∣₁

pub pieces-preserved : goal.pieces-preserved
pieces-preserved g c =
    let ps = map recorded_piece c.args.pieces.now in
    let k = c.pieces.piece-index in
    let p : Piece = recorded_piece c.piece-item.result in
    let is : slice_get ps k ≡ Some p = read_mapped recorded_piece c.args.pieces.now k _ c.piece-item.result
    c.pieces-test.true
    c.piece-item.is in
    let lent : Piece = piece_of c.piece-item.result.direction c.as_slice.result.now c.piece-item.result.tokens in
    let same : lent ≡ p = λ i. record {
      direction = p.direction;
      bytes = c.as_slice.ensures i;
      tokens = p.tokens;
    } in
    let more : take k ps ++ lent ∷ [] ≡ take (k + 1) ps =
    ap (λ (x : Piece). take k ps ++ x ∷ []) same ∙ sym (take_more ps k p is) ∙ ap (λ n. take n ps) (sym (add-one k)) in
    record {
      after = subst (λ (qs : List Piece). AfterPieces c.args.limit.bytes c.args.tables.now qs c.judge.new.self) more
          (c.in_ok-judge.ensures.after (take k ps) c.pieces.invariant.after);
      text = written_more c.args.limit.bytes c.args.tables.now c.args.output c.pieces.journal.sink.output (take k ps)
          (take (k + 1) ps) lent c.pieces.journal.sink.text.items c.judge.new.journal.sink.text.items
          c.pieces.invariant.output more (c.in_ok-judge.ensures.lines (take k ps) c.pieces.invariant.after)
          c.pieces.invariant.text;
      output = c.judge.ensures.output ∙ c.pieces.invariant.output;
    }

pub verdict-verdict-requires : goal.verdict-verdict-requires
verdict-verdict-requires g c =
    ∣ (
      c.args.limit.bytes,
      c.args.tables.now,
      take c.pieces.piece-index (map recorded_piece c.args.pieces.now),
      c.pieces.invariant.after,
    ) ∣₁

pub returns-clause-verdict : goal.returns-clause-verdict
returns-clause-verdict g c =
    let k = c.pieces.piece-index in
    let past = c.pieces-test.false in
    subst (λ (ps : List Piece). IsVerdictOf c.args.tables.now (session_of c.args.limit.bytes ps)
    c.verdict-verdict.result) (take_mapped recorded_piece c.args.pieces.now k (omega (arith, past)))
    (c.verdict-verdict.ensures c.args.limit.bytes c.args.tables.now (take k (map recorded_piece c.args.pieces.now))
    c.pieces.invariant.after)
