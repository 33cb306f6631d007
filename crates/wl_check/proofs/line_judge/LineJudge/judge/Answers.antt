use Rattle.std.proofs.Common.{◌≡◌, ◌∙◌, ℕ, List, [], ◌∷◌, ◌++◌, append-nil, ap, refl, sym, subst}
use Rattle.std.proofs.Math.Logic.{∥∥₁_map}
use Rattle.wl_sigs.specs.Tables.{Interface}
use Rattle.wl_recording.specs.Text.{LinesTell}
use Rattle.wl_recording.proofs.TextLemmas.{IsRefused, refused_on}
use Rattle.wl_check.specs.LinesJudged.{wanted_lines}
use Rattle.wl_check.specs.SessionState.{AfterPieces}
use Rattle.wl_check.proofs.LinesJudged.{lines_own, none_more, told_one}
use Rattle.wl_check.proofs.ReadyPiece.{still_after}
use Rattle.wl_check.proofs.line_judge.LineJudge.judge.Goals as goal

pub returns-in_err-piece-clause-bad : goal.returns-in_err-piece-clause-bad
returns-in_err-piece-clause-bad g c =
    refused_on c.from_residual.result c.in_err-piece.field-0.0 _ (IsRefused c.args.line.now) c.from_residual.ensures.1
    (λ e h. cc h) (c.in_err-piece.ensures.bad c.args.line.now [] c.new-reader.ensures)

pub judge_appended-requires-clause-ready : goal.judge_appended-requires-clause-ready
judge_appended-requires-clause-ready g c =
    let more = rw c.in-Some.is at (c.in_ok-piece.ensures.read c.args.line.now [] c.new-reader.ensures) in
    ∥∥₁_map (c.args.self.now.begun c.if-self.false) (λ x. (
      x.0,
      more.0,
      record {
        before = c.args.self.now.scanner;
        after = x.1;
        state = refl;
        len_to_server = refl;
        len_to_client = refl;
        tokens_to_server = refl;
        tokens_to_client = refl;
        appended_is = more.2;
      },
    ))

-- a skipped line has no piece
pub invariant_of-self-in_default : goal.invariant_of-self-in_default
invariant_of-self-in_default g c =
    let none = rw c.in_default.is at c.in_ok-piece.ensures.none in
    let s = c.args.self.now.scanner in
    record {
      begun = λ same. ∥∥₁_map (c.args.self.now.begun c.if-self.false) (λ x. (
        x.0,
        still_after c.args.self.now.limit.bytes c.args.self.now.tables.now x.0 s.state s.to_server _ s.to_client _
            (record { bytes = none.0; len = refl; tokens = refl })
            (record { bytes = none.1; len = refl; tokens = refl }) x.1,
      ));
    }

pub returns-in_default-clause-judged : goal.returns-in_default-clause-judged
returns-in_default-clause-judged g c prints_lines limit tables pieces one is h =
    let none = rw c.in_default.is at c.in_ok-piece.ensures.none in
    let told = rw c.in_default.is at (c.in_ok-piece.ensures.read c.args.line.now [] c.new-reader.ensures) in
    let s = c.args.self.now.scanner in
    record {
      more = [];
      told = subst (λ (ls : List (List ℕ)). LinesTell ls []) is told;
      judged = record {
        limit_is = h.limit_is;
        tables_are = h.tables_are;
        prints = h.prints;
        stands = refl;
        after = none_more limit tables pieces _
            (still_after limit tables pieces s.state s.to_server _ s.to_client _
            (record { bytes = none.0; len = refl; tokens = refl })
            (record { bytes = none.1; len = refl; tokens = refl }) h.after);
      };
      lines_are = ap (wanted_lines prints_lines limit tables) (append-nil pieces)
          ∙ sym (append-nil (wanted_lines prints_lines limit tables pieces))
          ∙ ap (λ (l : List ℕ). wanted_lines prints_lines limit tables pieces ++ l) (sym c.clear.ensures.items);
    }

pub invariant_of-self-2 : goal.invariant_of-self-2
invariant_of-self-2 g c =
    let more = rw c.in-Some.is at (c.in_ok-piece.ensures.read c.args.line.now [] c.new-reader.ensures) in
    record {
      begun = λ same. ∥∥₁_map (c.args.self.now.begun c.if-self.false) (λ x. (
        x.0 ++ more.0 ∷ [],
        c.in_ok-judge_appended.ensures.after x.0 more.0 (record {
          before = c.args.self.now.scanner;
          after = x.1;
          state = refl;
          len_to_server = refl;
          len_to_client = refl;
          tokens_to_server = refl;
          tokens_to_client = refl;
          appended_is = more.2;
        }),
      ));
    }

pub returns-clause-judged : goal.returns-clause-judged
returns-clause-judged g c prints_lines limit tables pieces one is h =
    let n = c.args.self.now.limit.bytes in
    let t = c.args.self.now.tables.now in
    let more = rw c.in-Some.is at (c.in_ok-piece.ensures.read c.args.line.now [] c.new-reader.ensures) in
    let own : AfterPieces n t pieces c.args.self.now.scanner =
    subst (λ (m : ℕ). AfterPieces m t pieces c.args.self.now.scanner) (sym h.limit_is)
    (subst (λ (u : List Interface). AfterPieces limit u pieces c.args.self.now.scanner) (sym h.tables_are) h.after)
    in
    let after = c.in_ok-judge_appended.ensures.after pieces more.0 (record {
      before = c.args.self.now.scanner;
      after = own;
      state = refl;
      len_to_server = refl;
      len_to_client = refl;
      tokens_to_server = refl;
      tokens_to_client = refl;
      appended_is = more.2;
    }) in
    let printed = lines_own prints_lines n t c.args.self.now.journal.sink.output pieces more.0 c.clear.new.self.items
    c.judge_appended.new.journal.sink.text.items h.prints c.clear.ensures.items
    (c.in_ok-judge_appended.ensures.lines pieces more.0 (record {
      before = c.args.self.now.scanner;
      after = own;
      state = refl;
      len_to_server = refl;
      len_to_client = refl;
      tokens_to_server = refl;
      tokens_to_client = refl;
      appended_is = more.2;
    })) in
    let shown = c.judge_appended.new.journal.sink.text.items in
    record {
      more = more.0 ∷ [];
      told = told_one c.args.line.now _ one _ more.0 more.1 is;
      judged = record {
        limit_is = h.limit_is;
        tables_are = h.tables_are;
        prints = c.judge_appended.ensures.output ∙ h.prints;
        stands = refl;
        after = subst (λ (m : ℕ). AfterPieces m tables (pieces ++ more.0 ∷ []) c.judge_appended.new.self) h.limit_is
            (subst (λ (u : List Interface). AfterPieces n u (pieces ++ more.0 ∷ []) c.judge_appended.new.self)
            h.tables_are after);
      };
      lines_are = subst (λ (m : ℕ). wanted_lines prints_lines m tables (pieces ++ more.0 ∷ [])
          ≡ wanted_lines prints_lines m tables pieces ++ shown) h.limit_is
          (subst (λ (u : List Interface). wanted_lines prints_lines n u (pieces ++ more.0 ∷ [])
          ≡ wanted_lines prints_lines n u pieces ++ shown) h.tables_are printed);
    }
