-- The merged list has each message of a direction once, in the order of the stream.
use Rattle.std.proofs.Common.{◌≡◌, ℕ, zero, suc, ◌+◌, ◌<◌, ◌≤◌, Bool, true, false, cond, Some, None}
use Rattle.std.proofs.Common.{List, [], ◌∷◌, ◌++◌, slice_get, length, take, drop, map, refl, sym}
use Rattle.std.proofs.Common.{ap, ◌∙◌, arith, append-nil, append_assoc}
use Rattle.std.specs.Prelude.{Option}
use Rattle.std.proofs.lemmas.List.{take_all}
use Rattle.wl_recording.specs.declared.piece.Direction.{Direction}
use Rattle.wl_recording.specs.Piece.{Piece}
use Rattle.wl_check.specs.declared.frames.FramedMessage.{FramedMessage}
use Rattle.wl_check.specs.Merged.{Span, span, Cutting, cutting, cut, same_direction, stream_of}
use Rattle.wl_check.specs.Merged.{piece_tokens, framed, completed_at, merged_within, merged}
use Rattle.wl_check.specs.Text.{spans_in}
use Rattle.wl_check.proofs.MessagesOfStream.{more, goes_on, drop_whole, drop_front}
use Rattle.wl_check.proofs.MergedPiece.{stream_more}
use Rattle.wl_check.proofs.Examined.{same_is}
use Rattle.wl_check.proofs.FreshIds.{some_at}

spans-append : (d : Direction) (fs gs : List FramedMessage) → spans_in d (fs ++ gs) ≡ spans_in d fs ++ spans_in d gs
spans-append d [] gs = refl
spans-append d (f ∷ fs) gs = ap (λ (l : List Span). cond (same_direction f.direction d) (span f.start f.size ∷ []) []
    ++ l) (spans-append d fs gs)
    ∙ sym (append_assoc (cond (same_direction f.direction d) (span f.start f.size ∷ []) []) (spans_in d fs)
    (spans_in d gs))

spans_own : (e d : Direction) (t : ℕ) (ms : List Span) → same_direction e d ≡ true
    → spans_in d (map (framed e t) ms) ≡ ms
spans_own e d t [] same = refl
spans_own e d t (m ∷ ms) same = rw same (ap (λ (l : List Span). m ∷ l) (spans_own e d t ms same))

spans_other : (e d : Direction) (t : ℕ) (ms : List Span) → same_direction e d ≡ false
    → spans_in d (map (framed e t) ms) ≡ []
spans_other e d t [] other = refl
spans_other e d t (m ∷ ms) other = rw other (spans_other e d t ms other)

both_step : (a : Cutting) (f : ℕ → Cutting) (b : Bool) → a.has_bad_size ≡ b
    → a.spans ++ drop (length a.spans) (goes_on a f).spans ≡ (goes_on a f).spans
both_step a f true is = rw is (ap (λ (l : List Span). a.spans ++ l) (drop_whole a.spans) ∙ append-nil a.spans)
both_step a f false is = rw is (ap (λ (l : List Span). a.spans ++ l) (drop_front a.spans (f a.place).spans))

-- the earlier messages, followed by those that a piece completes, are all
both : (limit : ℕ) (s t : List ℕ) → (cut limit s).spans ++ drop (length (cut limit s).spans) (cut limit (s ++ t)).spans
    ≡ (cut limit (s ++ t)).spans
both limit s t = rw (more limit (length s) (length (s ++ t)) s t 0 (omega arith) (omega arith) (omega arith))
    (both_step (cutting limit (length s) s 0) (cutting limit (length (s ++ t)) (s ++ t))
    (cutting limit (length s) s 0).has_bad_size refl)

piece_step : (limit : ℕ) (d e : Direction) (b : Bool) (s : List ℕ) (t : List ℕ) (k : ℕ) (w : List ℕ)
    → same_direction e d ≡ b → (b ≡ true → w ≡ s)
    → (cut limit s).spans ++ spans_in d (map (framed e k)
    (drop (length (cut limit w).spans) (cut limit (w ++ t)).spans)) ≡ (cut limit (s ++ cond b t [])).spans
piece_step limit d e true s t k w is same = ap (λ (l : List Span). (cut limit s).spans ++ l)
    (spans_own e d k (drop (length (cut limit w).spans) (cut limit (w ++ t)).spans) is)
    ∙ ap (λ (x : List ℕ). (cut limit s).spans ++ drop (length (cut limit x).spans) (cut limit (x ++ t)).spans)
    (same refl) ∙ both limit s t
piece_step limit d e false s t k w is same = ap (λ (l : List Span). (cut limit s).spans ++ l)
    (spans_other e d k (drop (length (cut limit w).spans) (cut limit (w ++ t)).spans) is)
    ∙ append-nil (cut limit s).spans ∙ ap (λ (x : List ℕ). (cut limit x).spans) (sym (append-nil s))

same_stream : (d e : Direction) (ps : List Piece) → same_direction e d ≡ true → stream_of e ps ≡ stream_of d ps
same_stream d e ps h = ap (λ (x : Direction). stream_of x ps) (same_is e d h)

next_step : (limit : ℕ) (d : Direction) (ps : List Piece) (k : ℕ) (o : Option Piece) → slice_get ps k ≡ o
    → k < length ps → (cut limit (stream_of d (take k ps))).spans ++ spans_in d (completed_at limit ps k o)
    ≡ (cut limit (stream_of d (take (suc k) ps))).spans
next_step limit d ps k None e h = absurd (let s = some_at ps k h in let is = s.1 in cc)
next_step limit d ps k (Some p) e h =
    piece_step limit d p.direction (same_direction p.direction d) (stream_of d (take k ps)) p.bytes
    (piece_tokens p.direction (take k ps) + p.tokens) (stream_of p.direction (take k ps)) refl
    (same_stream d p.direction (take k ps))
    ∙ ap (λ (x : List ℕ). (cut limit x).spans) (sym (stream_more d ps k p e))

within_once : (limit : ℕ) (d : Direction) (ps : List Piece) (k : ℕ) → k ≤ length ps
    → spans_in d (merged_within limit ps k) ≡ (cut limit (stream_of d (take k ps))).spans
unfolding merged_within cutting
within_once limit d ps zero h = refl
within_once limit d ps (suc k) h =
    spans-append d (merged_within limit ps k) (completed_at limit ps k (slice_get ps k))
    ∙ ap (λ (l : List Span). l ++ spans_in d (completed_at limit ps k (slice_get ps k)))
    (within_once limit d ps k (omega arith))
    ∙ next_step limit d ps k (slice_get ps k) refl (omega arith)

pub once : (limit : ℕ) (d : Direction) (ps : List Piece)
    → spans_in d (merged limit ps) ≡ (cut limit (stream_of d ps)).spans
once limit d ps = within_once limit d ps (length ps) (omega arith)
    ∙ ap (λ (l : List Piece). (cut limit (stream_of d l)).spans) (take_all (length ps) ps (omega arith))
