-- The output of an inspector for the pieces that pass.
use Rattle.std.specs.Prelude.{◌≡◌, ℕ, List, [], ◌∷◌, ◌++◌}
use Rattle.wl_sigs.specs.Tables.{Interface}
use Rattle.wl_recording.specs.Piece.{Piece}
use Rattle.wl_check.specs.declared.inspector.Inspector.{Inspector}
use Rattle.wl_check.specs.SessionState.{AfterPieces}
use Rattle.wl_check.specs.Printed.{AreOwnLines}

-- the lines that its last call printed
abbrev pub printed : {A : Type 0} → Inspector A → List ℕ
printed i = i.lines.items

-- These pieces, and no others, passed one by one through an inspector with this limit and these
-- tables.
pub record HasPassed {A : Type 0} (limit : ℕ) (tables : List Interface) (ps : List Piece)
    (i : Inspector A) : Type 0 where
  pub limit_is : i.limit.bytes ≡ limit
  pub tables_are : i.tables.now ≡ tables
  pub after : AfterPieces limit tables ps i.scanner

-- The effect of a call: the piece is the next one that passed, and the lines printed are those that
-- the trace gains with it.
abbrev pub PassesPiece : {A : Type 0} → ℕ → List Interface → Piece → Inspector A → Inspector A
    → Type 0
PassesPiece limit tables piece before after =
    (ps : List Piece) → HasPassed limit tables ps before
    → HasPassed limit tables (ps ++ piece ∷ []) after
    × AreOwnLines limit tables ps piece (printed after)

-- An inspector after these pieces passed one by one, and what the calls printed, joined.
pub data Inspected {A : Type 0} (limit : ℕ) (tables : List Interface) : List Piece → List ℕ
    → Inspector A → Type 0 where
  begun : {i : Inspector A} → HasPassed limit tables [] i → Inspected limit tables [] [] i
  passed : {ps : List Piece} {text : List ℕ} {before after : Inspector A} {piece : Piece}
      → Inspected limit tables ps text before → PassesPiece limit tables piece before after
      → Inspected limit tables (ps ++ piece ∷ []) (text ++ printed after) after
