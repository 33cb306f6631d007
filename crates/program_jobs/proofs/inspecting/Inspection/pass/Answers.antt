use Rattle.std.proofs.Common.{◌++◌, ◌∷◌, [], ℕ, List, refl, subst}
use Rattle.wl_recording.specs.Piece.{recorded_piece}
use Rattle.wl_check.specs.Following.{WasFed}
use Rattle.wl_check.specs.Inspected.{HasPassed}
use Rattle.wl_check.specs.Printed.{piece_of}
use Rattle.wl_check.proofs.PrintedSoFar.{on_ok}
use Rattle.program_jobs.proofs.PiecesInspected.{piece_came, piece_over}
use Rattle.program_jobs.proofs.inspecting.Inspection.pass.Goals as goal

-- the session has ended
pub returns-then-self : goal.returns-then-self
returns-then-self c limit tables pieces r =
    let passed = subst (λ (l : List ℕ). HasPassed limit tables
    (pieces ++ piece_of c.args.piece.now.direction l c.args.piece.now.tokens ∷ []) c.pass.new.self)
    c.as_slice-bytes.ensures (c.in_ok-pass.ensures.ok limit tables pieces r.inspected.passed).0 in
    piece_over limit tables pieces (recorded_piece c.args.piece.now) c.args.self.now _ r refl refl passed refl refl
    c.if-self.true

-- the piece comes to the follower
pub returns : goal.returns
returns c = on_ok c.follow.result
    (λ follows limit tables pieces r.
    let passed = subst (λ (l : List ℕ). HasPassed limit tables
    (pieces ++ piece_of c.args.piece.now.direction l c.args.piece.now.tokens ∷ []) c.pass.new.self)
    c.as_slice-bytes.ensures (c.in_ok-pass.ensures.ok limit tables pieces r.inspected.passed).0 in
    let came = subst (λ (l : List ℕ). WasFed c.args.piece.now.direction l c.args.self.now.follower c.feed.new.self)
    c.as_slice-bytes.ensures c.in_ok-feed.ensures.ok in
    follows limit tables (pieces ++ recorded_piece c.args.piece.now ∷ [])
    (piece_came limit tables pieces (recorded_piece c.args.piece.now) c.args.self.now _ r refl refl passed refl
    c.if-self.false came))
    c.follow.ensures
