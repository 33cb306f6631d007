-- One more piece in the merged list.
use Rattle.std.proofs.Common.{◌≡◌, ℕ, zero, suc, ◌+◌, ◌<◌, true, cond, Some, List, [], ◌∷◌, ◌++◌}
use Rattle.std.proofs.Common.{length, get_or, take, map, refl, sym, ap, ◌∙◌, arith, append-nil}
use Rattle.std.proofs.Common.{append_assoc, slice_get}
use Rattle.wl_recording.specs.declared.piece.Direction.{Direction}
use Rattle.wl_recording.specs.declared.piece.Direction.TheVariants.{ToServer, ToClient}
use Rattle.wl_recording.specs.Piece.{Piece}
use Rattle.wl_check.specs.Merged.{same_direction, stream_of, piece_tokens, completed, merged_within}

-- an item of a mapped list
pub read_mapped : {A B : Type 0} (f : A → B) (xs : List A) (k : ℕ) (d x : A) → k < length xs → x ≡ get_or xs k d
    → slice_get (map f xs) k ≡ Some (f x)
read_mapped f [] k d x h e = absurd (omega arith)
read_mapped f (y ∷ ys) zero d x h e = ap (λ z. Some (f z)) (sym e)
read_mapped f (y ∷ ys) (suc k) d x h e = read_mapped f ys k d x (omega arith) e

abbrev pub own : Direction → Piece → List ℕ
own d p = cond (same_direction p.direction d) p.bytes []

abbrev pub own_tokens : Direction → Piece → ℕ
own_tokens d p = cond (same_direction p.direction d) p.tokens 0

pub stream_more : (d : Direction) (ps : List Piece) (k : ℕ) (p : Piece) → slice_get ps k ≡ Some p
    → stream_of d (take (suc k) ps) ≡ stream_of d (take k ps) ++ own d p
stream_more d [] k p e = absurd (cc)
stream_more d (x ∷ xs) zero p e = let same : x ≡ p = cc in append-nil (own d x) ∙ ap (own d) same
stream_more d (x ∷ xs) (suc k) p e = ap (λ (l : List ℕ). own d x ++ l) (stream_more d xs k p e)
    ∙ sym (append_assoc (own d x) (stream_of d (take k xs)) (own d p))

pub tokens_more : (d : Direction) (ps : List Piece) (k : ℕ) (p : Piece) → slice_get ps k ≡ Some p
    → piece_tokens d (take (suc k) ps) ≡ piece_tokens d (take k ps) + own_tokens d p
tokens_more d [] k p e = absurd (cc)
tokens_more d (x ∷ xs) zero p e = let is : x ≡ p = cc in let same : own_tokens d x ≡ own_tokens d p =
    ap (own_tokens d) is in omega (arith, same)
tokens_more d (x ∷ xs) (suc k) p e = omega (arith, tokens_more d xs k p e)

pub merged_more : (limit : ℕ) (ps : List Piece) (k : ℕ) (p : Piece) → slice_get ps k ≡ Some p
    → merged_within limit ps (suc k) ≡ merged_within limit ps k ++ completed limit (take k ps) p
unfolding merged_within
merged_more limit ps k p e = rw e refl

pub same_is : (d : Direction) → same_direction d d ≡ true
same_is ToServer = refl
same_is ToClient = refl
