use Rattle.std.proofs.Common.{◌≡◌, ℕ, List, [], ◌∷◌, ◌++◌, ap, sym, subst}
use Rattle.std.specs.Prelude.{OnErr}
use Rattle.std.specs.declared.result.Result.{Result}
use Rattle.std.specs.declared.result.Result.TheVariants.{Ok, Err}
use Rattle.std.proofs.Math.Logic.{∥∥₁_map, ∥∥₁_prop}
use Rattle.wl_recording.specs.Piece.{Piece}
use Rattle.wl_sigs.specs.Tables.{Interface}
use Rattle.wl_check.specs.declared.inspector.Inspector.{Inspector}
use Rattle.wl_check.specs.declared.scanning.Scanner.{Scanner}
use Rattle.wl_check.specs.SessionState.{AfterPieces}
use Rattle.wl_check.specs.Printed.{piece_of, AreOwnLines}
use Rattle.wl_check.proofs.PrintedSoFar.{own_lines}
use Rattle.wl_check.proofs.Undone.{none_overwritten}
use Rattle.wl_check.proofs.inspector.Inspector.pass.Goals as goal

abbrev with_scanner : {A : Type 0} (i : Inspector A) (s : Scanner A)
    → ∥ ((ps : List Piece) × AfterPieces i.limit.bytes i.tables.now ps s) ∥₁ → Inspector A
with_scanner i s begun =
    record { tables = i.tables; limit = i.limit; scanner = s; lines = i.lines; begun = begun }

-- two proofs that the scanner is after some pieces are the same
same_inspector : {A : Type 0} (i : Inspector A) (s : Scanner A)
    (begun : ∥ ((ps : List Piece) × AfterPieces i.limit.bytes i.tables.now ps s) ∥₁) → s ≡ i.scanner
    → with_scanner i s begun ≡ i
same_inspector {A = A} i s begun same =
    subst (λ (t : Scanner A). (b : ∥ ((ps : List Piece) × AfterPieces i.limit.bytes i.tables.now ps t) ∥₁)
    → with_scanner i t b ≡ i) (sym same) (λ b. ap (with_scanner i i.scanner) (∥∥₁_prop b i.begun)) begun

always : {X E P : Type 0} (r : Result X E) → P → OnErr r P
always (Ok x) p = tt
always (Err e) p = p

pub returns-in_err-judge-clause-err : goal.returns-in_err-judge-clause-err
returns-in_err-judge-clause-err g c =
    always c.from_residual-in_err-judge.result
    (same_inspector c.args.self.now c.judge.new.self _
    (c.in_err-judge.ensures.err (none_overwritten c.new-overwritten.result.items
    c.args.self.now.scanner.state.progress.known.held c.new-overwritten.ensures.items)))

pub judge-requires-clause-after : goal.judge-requires-clause-after
judge-requires-clause-after g c = c.args.self.now.begun

pub invariant_of-self : goal.invariant_of-self
invariant_of-self g c = record {
  begun = ∥∥₁_map c.args.self.now.begun (λ x. (
    x.0,
    subst (AfterPieces c.args.self.now.limit.bytes c.args.self.now.tables.now x.0)
        (sym (c.in_err-judge.ensures.err (none_overwritten c.new-overwritten.result.items
        c.args.self.now.scanner.state.progress.known.held c.new-overwritten.ensures.items))) x.1,
  ));
}

pub invariant_of-self-2 : goal.invariant_of-self-2
invariant_of-self-2 g c = record {
  begun = ∥∥₁_map c.args.self.now.begun (λ x. (
    x.0 ++ piece_of c.args.direction c.args.bytes.now c.args.tokens ∷ [],
    c.in_ok-judge.ensures.after x.0 x.1,
  ));
}

pub returns-clause-ok : goal.returns-clause-ok
returns-clause-ok g c limit tables ps h =
    let n = c.args.self.now.limit.bytes in
    let t = c.args.self.now.tables.now in
    let p = piece_of c.args.direction c.args.bytes.now c.args.tokens in
    let own : AfterPieces n t ps c.args.self.now.scanner =
    subst (λ (m : ℕ). AfterPieces m t ps c.args.self.now.scanner) (sym h.limit_is)
    (subst (λ (u : List Interface). AfterPieces limit u ps c.args.self.now.scanner) (sym h.tables_are) h.after)
    in
    let after = c.in_ok-judge.ensures.after ps own in
    let lines = own_lines n t ps p c.new-text.result.items c.judge.new.journal.sink.text.items
    c.new-text.ensures.items (c.in_ok-judge.ensures.lines ps own) in (
      record {
        limit_is = h.limit_is;
        tables_are = h.tables_are;
        after = subst (λ (m : ℕ). AfterPieces m tables (ps ++ p ∷ []) c.judge.new.self) h.limit_is
            (subst (λ (u : List Interface). AfterPieces n u (ps ++ p ∷ []) c.judge.new.self) h.tables_are
            after);
      },
      subst (λ (m : ℕ). AreOwnLines m tables ps p c.judge.new.journal.sink.text.items) h.limit_is
          (subst (λ (u : List Interface). AreOwnLines n u ps p c.judge.new.journal.sink.text.items) h.tables_are lines),
    )
