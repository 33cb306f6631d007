-- Each message is within its stream.
use Rattle.std.proofs.Common.{◌≡◌, ℕ, zero, suc, ◌+◌, ◌≤◌, true, cond, Some, None, List, [], ◌∷◌}
use Rattle.std.proofs.Common.{◌++◌, slice_get, length, take, drop, map, refl, ap, arith, subst}
use Rattle.std.proofs.Common.{length-append}
use Rattle.std.specs.Prelude.{Option}
use Rattle.std.specs.List.{AllByRecursion}
use Rattle.std.proofs.lemmas.List.{length-drop}
use Rattle.wl_check.proofs.MergedPiece.{same_is}
use Rattle.wl_recording.specs.declared.piece.Direction.{Direction}
use Rattle.wl_recording.specs.Piece.{Piece}
use Rattle.wl_message.specs.Cut.{is_size, front, Front, More, Bad, Whole}
use Rattle.wl_message.proofs.Cuts.{front_spoiled, all_append}
use Rattle.wl_check.specs.declared.frames.FramedMessage.{FramedMessage}
use Rattle.wl_check.specs.Merged.{Span, cutting, cut_by_front, cut, same_direction, stream_of, piece_tokens}
use Rattle.wl_check.specs.Merged.{framed, completed_at, merged_within, merged}
use Rattle.wl_check.specs.Session.{session_of, IsWithin, AreWithin}
use Rattle.wl_check.proofs.MessagesOfStream.{next_within}

abbrev FitsIn : (limit : ℕ) → ℕ → Span → Type 0
FitsIn limit n m = (m.start + 8 ≤ n) × (is_size limit m.size ≡ true → m.start + m.size ≤ n)

spans_step : (limit n : ℕ) (s : List ℕ) (p : ℕ) (f : Front) → front limit (drop p s) ≡ f → p ≤ length s
    → ((z : ℕ) → p + z ≤ length s → AllByRecursion (FitsIn limit (length s)) (cutting limit n s (p + z)).spans)
    → AllByRecursion (FitsIn limit (length s)) (cut_by_front p f (cutting limit n s)).spans
spans_step limit n s p More e within ih = tt
spans_step limit n s p (Bad z) e within ih =
    let b = front_spoiled limit (drop p s) z e in
    ((omega (arith, b.header, length-drop p s), λ good. absurd (let none = b.none in cc)), tt)
spans_step limit n s p (Whole z) e within ih = let w = next_within limit s p z e within
    in ((omega (arith, w.0, w.1), λ good. w.1), ih z w.1)

spans_within : (limit n : ℕ) (s : List ℕ) (p : ℕ) → p ≤ length s
    → AllByRecursion (FitsIn limit (length s)) (cutting limit n s p).spans
unfolding cutting
spans_within limit zero s p within = tt
spans_within limit (suc n) s p within = spans_step limit n s p (front limit (drop p s)) refl within
    (λ z there. spans_within limit n s (p + z) there)

all_drop : {X : Type 0} (P : X → Type 0) (n : ℕ) (xs : List X) → AllByRecursion P xs → AllByRecursion P (drop n xs)
all_drop P zero xs a = a
all_drop P (suc n) [] a = tt
all_drop P (suc n) (x ∷ xs) a = all_drop P n xs a.1

all_get : {X : Type 0} (P : X → Type 0) (xs : List X) (k : ℕ) (x : X) → AllByRecursion P xs → slice_get xs k ≡ Some x
    → P x
all_get P [] k x a e = absurd (cc)
all_get P (y ∷ ys) zero x a e = let same : y ≡ x = cc in subst P same a.0
all_get P (y ∷ ys) (suc k) x a e = all_get P ys k x a.1 e

-- a stream grows
stream_le : (d : Direction) (ps : List Piece) (k : ℕ) (p : Piece) → slice_get ps k ≡ Some p
    → same_direction p.direction d ≡ true → length (stream_of d (take k ps) ++ p.bytes) ≤ length (stream_of d ps)
stream_le d [] k p e same = absurd (cc)
stream_le d (x ∷ xs) zero p e same =
    let is : x ≡ p = cc in
    let own : cond (same_direction x.direction d) x.bytes [] ≡ p.bytes = rw (is, same) refl in
    let l = ap (λ (b : List ℕ). length b) own in
    omega (arith, l, length-append (cond (same_direction x.direction d) x.bytes []) (stream_of d xs))
stream_le d (x ∷ xs) (suc k) p e same =
    let own = cond (same_direction x.direction d) x.bytes [] in
    let i = stream_le d xs k p e same in
    omega (
      arith,
      i,
      length-append own (stream_of d xs),
      length-append
          (own ++ stream_of d (take k xs)) p.bytes,
      length-append own (stream_of d (take k xs)),
      length-append
          (stream_of d (take k xs)) p.bytes,
    )

abbrev pub LiesIn : (limit : ℕ) → List Piece → FramedMessage → Type 0
LiesIn limit ps f = IsWithin limit (length (stream_of f.direction ps)) f

frames_step : (limit : ℕ) (ps : List Piece) (d : Direction) (t n : ℕ) (ms : List Span) → n ≤ length (stream_of d ps)
    → AllByRecursion (FitsIn limit n) ms → AllByRecursion (LiesIn limit ps) (map (framed d t) ms)
frames_step limit ps d t n [] h a = tt
frames_step limit ps d t n (m ∷ ms) h a = (
  record {
    header = (let b = a.0.0 in omega (arith, b, h));
    whole = λ good. (let b = a.0.1 good in omega (arith, b, h));
  },
  frames_step limit ps d t n ms h a.1,
)

completed_within : (limit : ℕ) (ps : List Piece) (k : ℕ) (o : Option Piece) → slice_get ps k ≡ o
    → AllByRecursion (LiesIn limit ps) (completed_at limit ps k o)
completed_within limit ps k None e = tt
completed_within limit ps k (Some p) e =
    let s = stream_of p.direction (take k ps) in
    frames_step limit ps p.direction (piece_tokens p.direction (take k ps) + p.tokens) (length (s ++ p.bytes))
    (drop (length (cut limit s).spans) (cut limit (s ++ p.bytes)).spans)
    (stream_le p.direction ps k p e (same_is p.direction))
    (all_drop (FitsIn limit (length (s ++ p.bytes))) (length (cut limit s).spans) (cut limit (s ++ p.bytes)).spans
    (spans_within limit (length (s ++ p.bytes)) (s ++ p.bytes) 0 (omega arith)))

pub merged_lies : (limit : ℕ) (ps : List Piece) (k : ℕ) → AllByRecursion (LiesIn limit ps) (merged_within limit ps k)
unfolding merged_within
merged_lies limit ps zero = tt
merged_lies limit ps (suc k) = all_append (LiesIn limit ps) (merged_within limit ps k)
    (completed_at limit ps k (slice_get ps k)) (merged_lies limit ps k)
    (completed_within limit ps k (slice_get ps k) refl)

pub all_within : (limit : ℕ) (ps : List Piece) → AreWithin (session_of limit ps)
all_within limit ps = λ k f e. all_get (LiesIn limit ps) (merged limit ps) k f (merged_lies limit ps (length ps)) e
