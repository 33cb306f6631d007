-- One line, judged after others.
use Rattle.std.proofs.Common.{◌≡◌, ℕ, Bool, true, false, List, [], ◌∷◌, ◌++◌, append-nil, refl, sym, subst}
use Rattle.std.specs.Str.Lines.{lines}
use Rattle.wl_sigs.specs.Tables.{Interface}
use Rattle.wl_recording.specs.Piece.{Piece}
use Rattle.wl_recording.specs.Text.{IsReadUpTo, LinesTell, tells, skips, ends}
use Rattle.wl_check.specs.declared.session_state.Output.{Output}
use Rattle.wl_check.specs.LinesJudged.{output_of, wanted_lines}
use Rattle.wl_check.specs.Printed.{PrintsPiece}
use Rattle.wl_check.specs.SessionState.{AfterPieces}
use Rattle.wl_check.specs.declared.scanning.Scanner.{Scanner}
use Rattle.wl_check.proofs.PrintedSoFar.{own_lines}

-- the piece that was read from one line
no_line_no_piece : (none : List (List ℕ)) (pieces : List Piece) (piece : Piece) → LinesTell none pieces
    → none ≡ [] → pieces ≡ piece ∷ [] → ⊥
no_line_no_piece none pieces piece ends empty some = cc some
no_line_no_piece none pieces piece (skips skipped more) empty some = cc empty
no_line_no_piece none pieces piece (tells told more) empty some = cc empty

pub told_one : (text rest line : List ℕ) (number : ℕ) (piece : Piece) → IsReadUpTo text rest number (piece ∷ [])
    → lines text ≡ line ∷ [] → LinesTell (line ∷ []) (piece ∷ [])
told_one text rest line number piece read one = by read.done read.told read.whole
  where
    by : (done : List (List ℕ)) → LinesTell done (piece ∷ []) → lines text ≡ done ++ lines rest
        → LinesTell (line ∷ []) (piece ∷ [])
    by [] told whole = absurd (no_line_no_piece [] (piece ∷ []) piece told refl refl)
    by (first ∷ []) told whole =
        let same : first ≡ line = cc (whole, one) in
        subst (λ (l : List ℕ). LinesTell (l ∷ []) (piece ∷ [])) same told
    by (first ∷ next ∷ more) told whole = cc (whole, one)

-- what was printed for one more piece, if nothing waited before it
pub lines_own : (prints_lines : Bool) (limit : ℕ) (tables : List Interface) (o : Output) (ps : List Piece) (p : Piece)
    (old new : List ℕ) → o ≡ output_of prints_lines → old ≡ [] → PrintsPiece limit tables o ps p old new
    → wanted_lines prints_lines limit tables (ps ++ p ∷ []) ≡ wanted_lines prints_lines limit tables ps ++ new
lines_own true limit tables o ps p old new is none prints = own_lines limit tables ps p old new none
    (subst (λ (x : Output). PrintsPiece limit tables x ps p old new) is prints)
lines_own false limit tables o ps p old new is none prints =
    sym ((subst (λ (x : Output). PrintsPiece limit tables x ps p old new) is prints) [] none)

-- no piece more
pub none_more : {A : Type 0} (limit : ℕ) (tables : List Interface) (ps : List Piece) (s : Scanner A)
    → AfterPieces limit tables ps s → AfterPieces limit tables (ps ++ []) s
none_more limit tables ps s h = subst (λ (qs : List Piece). AfterPieces limit tables qs s) (sym (append-nil ps)) h
