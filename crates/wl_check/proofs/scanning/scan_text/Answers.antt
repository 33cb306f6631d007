use Rattle.std.proofs.Common.{[], ◌∷◌, ◌++◌, refl, ◌∙◌}
use Rattle.wl_recording.proofs.TextLemmas.{IsRefused, refused_on}
use Rattle.wl_check.proofs.PrintedSoFar.{written_more, written_none}
use Rattle.wl_check.proofs.ReadyPiece.{match_none, still_after, when_none}
use Rattle.wl_check.proofs.scanning.scan_text.Goals as goal

pub pieces-init : goal.pieces-init
pieces-init g c = (
  [],
  c.new-reader.ensures,
  c.in_ok-scanner.ensures.none c.args.limit.bytes,
  written_none c.args.limit.bytes c.args.tables.now c.args.output c.new-lines.result.items c.new-lines.ensures.items,
  refl,
)

pub returns-in_err-piece-clause-bad : goal.returns-in_err-piece-clause-bad
returns-in_err-piece-clause-bad g c =
    let bad = c.in_err-piece.ensures.bad c.args.text.now c.pieces.invariant.0 c.pieces.invariant.1 in
    refused_on c.from_residual-in_err-piece.result c.in_err-piece.field-0.0 _
    (IsRefused c.args.text.now) c.from_residual-in_err-piece.ensures.1 (λ e h. cc h) bad

pub judge_appended-requires-clause-ready : goal.judge_appended-requires-clause-ready
judge_appended-requires-clause-ready g c =
    let more = rw c.in-Some.is at (c.in_ok-piece.ensures.read c.args.text.now c.pieces.invariant.0 c.pieces.invariant.1)
    in ∣ (
      c.pieces.invariant.0,
      more.0,
      record {
        before = c.pieces.scanner;
        after = c.pieces.invariant.2;
        state = refl;
        len_to_server = refl;
        len_to_client = refl;
        tokens_to_server = refl;
        tokens_to_client = refl;
        appended_is = more.2;
      },
    ) ∣₁

pub pieces-preserved : goal.pieces-preserved
pieces-preserved g c =
    let more = rw c.in-Some.is at (c.in_ok-piece.ensures.read c.args.text.now c.pieces.invariant.0 c.pieces.invariant.1)
    in
    let pieces = c.pieces.invariant.0 in
    let after = c.in_ok-judge_appended.ensures.after pieces more.0 (record {
      before = c.pieces.scanner;
      after = c.pieces.invariant.2;
      state = refl;
      len_to_server = refl;
      len_to_client = refl;
      tokens_to_server = refl;
      tokens_to_client = refl;
      appended_is = more.2;
    }) in
    let lines = c.in_ok-judge_appended.ensures.lines pieces more.0 (record {
      before = c.pieces.scanner;
      after = c.pieces.invariant.2;
      state = refl;
      len_to_server = refl;
      len_to_client = refl;
      tokens_to_server = refl;
      tokens_to_client = refl;
      appended_is = more.2;
    }) in (
      pieces ++ more.0 ∷ [],
      more.1,
      after,
      written_more c.args.limit.bytes c.args.tables.now c.args.output c.pieces.journal.sink.output pieces
          (pieces ++ more.0 ∷ []) more.0 c.pieces.journal.sink.text.items c.judge_appended.new.journal.sink.text.items
          c.pieces.invariant.4 refl lines c.pieces.invariant.3,
      c.judge_appended.ensures.output ∙ c.pieces.invariant.4,
    )

pub verdict-verdict-requires : goal.verdict-verdict-requires
verdict-verdict-requires g c =
    let none = when_none c.in_ok-piece.field-0 c.in_default.not-Some c.in_ok-piece.ensures.none in
    let s = c.pieces.scanner in
    ∣ (
      c.args.limit.bytes,
      c.args.tables.now,
      c.pieces.invariant.0,
      still_after c.args.limit.bytes c.args.tables.now c.pieces.invariant.0 s.state s.to_server _ s.to_client _
          (record { bytes = none.0; len = refl; tokens = refl })
          (record { bytes = none.1; len = refl; tokens = refl }) c.pieces.invariant.2,
    ) ∣₁

pub returns-clause-told : goal.returns-clause-told
returns-clause-told g c =
    let none = when_none c.in_ok-piece.field-0 c.in_default.not-Some c.in_ok-piece.ensures.none in
    let s = c.pieces.scanner in
    let pieces = c.pieces.invariant.0 in
    let told = match_none _ c.in_ok-piece.field-0 c.in_default.not-Some
    (c.in_ok-piece.ensures.read c.args.text.now pieces c.pieces.invariant.1) in (
      pieces,
      told,
      (
        c.pieces.invariant.3,
        c.verdict-verdict.ensures c.args.limit.bytes c.args.tables.now pieces
            (still_after c.args.limit.bytes c.args.tables.now pieces s.state s.to_server _ s.to_client _
            (record { bytes = none.0; len = refl; tokens = refl })
            (record { bytes = none.1; len = refl; tokens = refl }) c.pieces.invariant.2),
      ),
    )
