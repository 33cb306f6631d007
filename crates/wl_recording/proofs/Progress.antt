-- How far a text has been read.
use Rattle.std.proofs.Common.{◌≡◌, ℕ, ◌+◌, ◌<◌, List, [], ◌∷◌, ◌++◌, length, refl, sym, ap, subst}
use Rattle.std.proofs.Common.{◌∙◌, inl, inr, append_assoc, append-nil, arith}
use Rattle.std.specs.Str.Lines.{lines}
use Rattle.std.proofs.lemmas.List.{length_push}
use Rattle.wl_recording.specs.Piece.{Piece}
use Rattle.wl_text.specs.Lines.{IsSkipped}
use Rattle.wl_recording.specs.Line.{IsPiece}
use Rattle.wl_recording.specs.Text.{LinesTell, ends, skips, tells, TextRecords, IsFirstBad, IsReadUpTo, IsReached}
use Rattle.wl_recording.proofs.TextLemmas.{tell_append, tell_good}

pub started : (text : List ℕ) → IsReadUpTo text text 0 []
started text = record { done = []; whole = refl; count = refl; told = ends; room = omega arith }

-- one more line
one_more : (text rest after : List ℕ) (number : ℕ) (line : List ℕ) (pieces more : List Piece)
    → (p : IsReadUpTo text rest number pieces) → lines rest ≡ line ∷ lines after
    → length after < length rest → LinesTell (line ∷ []) more → IsReadUpTo text after (number + 1) (pieces ++ more)
one_more text rest after number line pieces more p first shorter told =
    let count = p.count in
    let room = p.room in
    record {
      done = p.done ++ line ∷ [];
      whole = p.whole ∙ ap (λ (ls : List (List ℕ)). p.done ++ ls) first
          ∙ sym (append_assoc p.done (line ∷ []) (lines after));
      count = omega (arith, length_push p.done line);
      told = tell_append p.told told;
      room = omega arith;
    }

pub skipped_line : (text rest after : List ℕ) (number : ℕ) (line : List ℕ) (pieces : List Piece)
    → IsReadUpTo text rest number pieces → lines rest ≡ line ∷ lines after
    → length after < length rest → IsSkipped line → IsReadUpTo text after (number + 1) pieces
skipped_line text rest after number line pieces p first shorter skipped =
    rw append-nil at (one_more text rest after number line pieces [] p first shorter (skips skipped ends))

pub told_line : (text rest after : List ℕ) (number : ℕ) (line : List ℕ) (pieces : List Piece) (piece : Piece)
    → IsReadUpTo text rest number pieces → lines rest ≡ line ∷ lines after
    → length after < length rest → IsPiece line piece → IsReadUpTo text after (number + 1) (pieces ++ piece ∷ [])
told_line text rest after number line pieces piece p first shorter told =
    one_more text rest after number line pieces (piece ∷ []) p first shorter (tells told ends)

-- the next line is bad
pub bad_line : (text rest after : List ℕ) (number : ℕ) (line : List ℕ) (pieces : List Piece)
    → IsReadUpTo text rest number pieces → lines rest ≡ line ∷ lines after
    → (IsSkipped line → ⊥) → ((piece : Piece) → IsPiece line piece → ⊥) → IsFirstBad text (number + 1)
bad_line text rest after number line pieces p first not_skipped not_piece = record {
  before = p.done;
  line = line;
  after = lines after;
  whole = p.whole ∙ ap (λ (ls : List (List ℕ)). p.done ++ ls) first;
  place = ap (λ (n : ℕ). n + 1) p.count;
  good = tell_good p.told;
  bad = λ good. elim good [
    | inl skipped ↦ not_skipped skipped
    | inr told ↦ not_piece told.0 told.1
  ];
}

-- no line remains
pub all_read : (text rest : List ℕ) (number : ℕ) (pieces : List Piece) → IsReadUpTo text rest number pieces
    → length rest ≡ 0 → TextRecords text pieces
all_read text [] number pieces p none = rw (p.whole, append-nil) p.told
all_read text (byte ∷ rest) number pieces p none = absurd (omega arith)

-- the line just read is a piece
pub reached_piece : (text rest : List ℕ) (number : ℕ) (line : List ℕ) (pieces : List Piece) (piece : Piece)
    → IsReached text rest number line pieces → IsPiece line piece
    → IsReadUpTo text rest number (pieces ++ piece ∷ [])
reached_piece text rest number line pieces piece r told =
    subst (λ (n : ℕ). IsReadUpTo text rest n (pieces ++ piece ∷ [])) (sym r.next)
    (told_line text r.front rest r.before line pieces piece r.read r.first r.shorter told)

-- the line just read is bad
pub reached_bad : (text rest : List ℕ) (number : ℕ) (line : List ℕ) (pieces : List Piece)
    → IsReached text rest number line pieces → ((piece : Piece) → IsPiece line piece → ⊥)
    → IsFirstBad text number
reached_bad text rest number line pieces r never =
    subst (IsFirstBad text) (sym r.next) (bad_line text r.front rest r.before line pieces r.read r.first r.inked never)
