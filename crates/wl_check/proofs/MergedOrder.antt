-- The messages of the merged list come with the pieces that bring their last bytes. A bad size is
-- the last of its direction.
use Rattle.std.proofs.Common.{◌≡◌, ◌≢◌, ℕ, zero, suc, ◌+◌, ◌≤◌, true, cond, Some, List, [], ◌∷◌}
use Rattle.std.proofs.Common.{◌++◌, slice_get, length, take, drop, map, refl, sym, ap, subst, ◌∙◌}
use Rattle.std.proofs.Common.{arith}
use Rattle.std.specs.List.{AllByRecursion}
use Rattle.std.proofs.lemmas.List.{drop-drop, drop_all}
use Rattle.wl_message.specs.Cut.{is_size, front, Front, More, Bad, Whole, cut_within, rest_of}
use Rattle.wl_message.proofs.Cuts.{front_none}
use Rattle.wl_recording.specs.Piece.{Piece}
use Rattle.wl_check.specs.declared.frames.FramedMessage.{FramedMessage}
use Rattle.wl_check.specs.Merged.{Span, span, cutting, cut_by_front, cut, span_finish, stream_of, piece_tokens}
use Rattle.wl_check.specs.Merged.{framed, completed, merged_within, merged}
use Rattle.wl_check.specs.Text.{EndsWith, messages, bad_size, BringsSpans, ComesWith, ComeInOrder}
use Rattle.wl_check.proofs.MessagesOfStream.{next_within}
use Rattle.wl_check.proofs.LastBytes.{piece_brings, whole_size}
use Rattle.wl_check.proofs.MergedPiece.{stream_more, tokens_more, merged_more, same_is}
use Rattle.wl_check.proofs.FreshIds.{some_at}

-- ---- the order of the pieces

all_with : (limit : ℕ) (ps : List Piece) (k from : ℕ) (fs : List FramedMessage) → from ≤ k
    → AllByRecursion (ComesWith limit ps k) fs → ComeInOrder limit ps from (suc k) fs
all_with limit ps k from [] l h = tt
all_with limit ps k from (f ∷ fs) l h = (k, l, omega arith, h.0, all_with limit ps k k fs (omega arith) h.1)

order_more : (limit : ℕ) (ps : List Piece) (k from : ℕ) (fs gs : List FramedMessage) → from ≤ k
    → ComeInOrder limit ps from k fs → AllByRecursion (ComesWith limit ps k) gs
    → ComeInOrder limit ps from (suc k) (fs ++ gs)
order_more limit ps k from [] gs l h g = all_with limit ps k from gs l g
order_more limit ps k from (f ∷ fs) gs l h g =
    let less = h.2 in
    (h.0, h.1, omega (arith, less), h.3, order_more limit ps k h.0 fs gs (omega (arith, less)) h.4 g)

-- the messages that a piece completes come with it
come_with : (limit : ℕ) (ps : List Piece) (k : ℕ) (p : Piece) → slice_get ps k ≡ Some p → (ms : List Span)
    → BringsSpans limit (length (stream_of p.direction (take k ps)))
    (length (stream_of p.direction (take k ps) ++ p.bytes)) ms
    → AllByRecursion (ComesWith limit ps k) (map (framed p.direction (piece_tokens p.direction (take k ps) + p.tokens))
    ms)
come_with limit ps k p e [] b = tt
come_with limit ps k p e (m ∷ ms) b =
    let d = p.direction in
    let bytes : stream_of d (take (suc k) ps) ≡ stream_of d (take k ps) ++ p.bytes =
    stream_more d ps k p e ∙ ap (λ t. stream_of d (take k ps) ++ cond t p.bytes []) (same_is d) in
    let tokens : piece_tokens d (take (suc k) ps) ≡ piece_tokens d (take k ps) + p.tokens =
    tokens_more d ps k p e ∙ ap (λ t. piece_tokens d (take k ps) + cond t p.tokens 0) (same_is d) in (
      record {
        piece = p;
        there = e;
        direction = refl;
        behind = b.0.0;
        within = subst (λ (l : List ℕ). span_finish limit m ≤ length l) (sym bytes) b.0.1;
        tokens = sym tokens;
      },
      come_with limit ps k p e ms b.1,
    )

within_order : (limit : ℕ) (ps : List Piece) (k : ℕ) → k ≤ length ps
    → ComeInOrder limit ps 0 k (merged_within limit ps k)
unfolding merged_within
within_order limit ps zero l = tt
within_order limit ps (suc k) l =
    let s = some_at ps k (omega (arith, l)) in
    let p = s.0 in
    let e : slice_get ps k ≡ Some p = s.1 in
    let d = p.direction in
    subst (ComeInOrder limit ps 0 (suc k)) (sym (merged_more limit ps k p e))
    (order_more limit ps k 0 (merged_within limit ps k) (completed limit (take k ps) p) (omega arith)
    (within_order limit ps k (omega (arith, l)))
    (come_with limit ps k p e _ (piece_brings limit (stream_of d (take k ps)) p.bytes)))

pub in_order : (limit : ℕ) (ps : List Piece) → ComeInOrder limit ps 0 (length ps) (merged limit ps)
in_order limit ps = within_order limit ps (length ps) (omega arith)

-- ---- a bad size

rest_more : (limit count : ℕ) (bytes : List ℕ) → front limit bytes ≡ More
    → (cut_within (suc count) limit bytes).rest ≡ bytes
unfolding cut_within
rest_more limit count bytes e = rw (e, cut_within) refl

rest_bad : (limit count z : ℕ) (bytes : List ℕ) → front limit bytes ≡ Bad z
    → (cut_within (suc count) limit bytes).rest ≡ bytes
unfolding cut_within
rest_bad limit count z bytes e = rw (e, cut_within) refl

rest_whole : (limit count z : ℕ) (bytes : List ℕ) → front limit bytes ≡ Whole z
    → (cut_within (suc count) limit bytes).rest ≡ (cut_within count limit (drop z bytes)).rest
unfolding cut_within
rest_whole limit count z bytes e = rw (e, cut_within) refl

no_bad : (limit : ℕ) (rest : List ℕ) → front limit rest ≡ More → (z : ℕ) → front limit rest ≢ Bad z
no_bad limit rest e z b = cc (e, b)

end_later : (limit : ℕ) (s rest : List ℕ) (p z : ℕ) (ms : List Span) → is_size limit z ≡ true → EndsWith limit s rest ms
    → EndsWith limit s rest (span p z ∷ ms)
end_later limit s rest p z ms g (messages a n) = messages (g, a) n
end_later limit s rest p z ms g (bad_size before place size e a d f) =
    bad_size (span p z ∷ before) place size (ap (λ (l : List Span). span p z ∷ l) e) (g, a) d f

end_step : (limit n : ℕ) (s : List ℕ) (p : ℕ) (f : Front) → front limit (drop p s) ≡ f → p ≤ length s
    → ((z : ℕ) → 8 ≤ z → p + z ≤ length s → EndsWith limit s (cut_within n limit (drop (p + z) s)).rest
    (cutting limit n s (p + z)).spans)
    → EndsWith limit s (cut_within (suc n) limit (drop p s)).rest (cut_by_front p f (cutting limit n s)).spans
end_step limit n s p More e l ih = subst (λ (r : List ℕ). EndsWith limit s r []) (sym (rest_more limit n (drop p s) e))
    (messages tt (no_bad limit (drop p s) e))
end_step limit n s p (Bad z) e l ih = subst (λ (r : List ℕ). EndsWith limit s r (span p z ∷ []))
    (sym (rest_bad limit n z (drop p s) e)) (bad_size [] p z refl tt refl e)
end_step limit n s p (Whole z) e l ih =
    let w = next_within limit s p z e l in
    subst (λ (r : List ℕ). EndsWith limit s r (span p z ∷ (cutting limit n s (p + z)).spans))
    (sym (rest_whole limit n z (drop p s) e ∙ ap (λ (b : List ℕ). (cut_within n limit b).rest) (drop-drop z p s)))
    (end_later limit s _ p z (cutting limit n s (p + z)).spans (whole_size limit s p z e) (ih z w.0 w.1))

ends : (limit n : ℕ) (s : List ℕ) (p : ℕ) → p ≤ length s → length s ≤ p + n
    → EndsWith limit s (cut_within n limit (drop p s)).rest (cutting limit n s p).spans
unfolding cutting cut_within
ends limit zero s p l h = messages tt (no_bad limit (drop p s)
    (ap (front limit) (drop_all p s (omega (arith, h))) ∙ front_none limit))
ends limit (suc n) s p l h = end_step limit n s p (front limit (drop p s)) refl l
    (λ z big there. ends limit n s (p + z) there (omega (arith, big, h)))

pub ends_with : (limit : ℕ) (s : List ℕ) → EndsWith limit s (rest_of limit s) (cut limit s).spans
ends_with limit s = ends limit (length s) s 0 (omega arith) (omega arith)
