-- A piece brings the last byte of each message that it completes. The messages are those that the
-- sizes alone cut off.
use Rattle.std.proofs.Common.{◌≡◌, ℕ, zero, suc, ◌+◌, ◌<◌, ◌≤◌, Bool, true, false, cond, List, [], ◌∷◌, ◌++◌, length}
use Rattle.std.proofs.Common.{drop, take, map, refl, sym, ap, ◌∙◌, arith, subst, length-append}
use Rattle.std.proofs.lemmas.List.{length-drop, drop-append-le, drop-drop}
use Rattle.wl_message.specs.Cut.{is_size, told_size, front, Front, More, Bad, Whole, cut_within, messages_in_stream}
use Rattle.wl_message.proofs.Fronts.{Seen, short, long, whole, bad, seen, front_stands, is_size-true}
use Rattle.wl_message.proofs.Cuts.{front_spoiled, told_append}
use Rattle.wl_check.specs.Merged.{Span, span, cutting, cut_by_front, cut, span_finish}
use Rattle.wl_check.specs.Text.{part_of, sound, BringsSpans}
use Rattle.wl_check.proofs.MessagesOfStream.{step, new_spans, next_within, front_past, place_within}

-- ---- where a message ends

finish_bad : (limit p z : ℕ) → is_size limit z ≡ false → span_finish limit (span p z) ≡ p + 8
finish_bad limit p z e = rw e refl

finish_good : (limit p z : ℕ) → is_size limit z ≡ true → span_finish limit (span p z) ≡ p + z
finish_good limit p z e = rw e refl

pub whole_size : (limit : ℕ) (s : List ℕ) (p z : ℕ) → front limit (drop p s) ≡ Whole z → is_size limit z ≡ true
whole_size limit s p z e = is_size-true limit z (front_stands limit (drop p s) z e).size

within_step : (limit n b : ℕ) (w : List ℕ) (p : ℕ) (f : Front) → front limit (drop p w) ≡ f → p ≤ length w → b ≤ p
    → ((z : ℕ) → p + z ≤ length w → BringsSpans limit b (length w) (cutting limit n w (p + z)).spans)
    → BringsSpans limit b (length w) (cut_by_front p f (cutting limit n w)).spans
within_step limit n b w p More e within after ih = tt
within_step limit n b w p (Bad z) e within after ih =
    let x = front_spoiled limit (drop p w) z e in
    let f = finish_bad limit p z x.none in
    let h = x.header in
    ((omega (arith, f, after), omega (arith, f, h, length-drop p w, within)), tt)
within_step limit n b w p (Whole z) e within after ih =
    let x = next_within limit w p z e within in
    let f = finish_good limit p z (whole_size limit w p z e) in
    let big = x.0 in
    let there = x.1 in
    ((omega (arith, f, big, after), omega (arith, f, there)), ih z there)

within : (limit n b : ℕ) (w : List ℕ) (p : ℕ) → p ≤ length w → b ≤ p
    → BringsSpans limit b (length w) (cutting limit n w p).spans
unfolding cutting
within limit zero b w p there after = tt
within limit (suc n) b w p there after = within_step limit n b w p (front limit (drop p w)) refl there after
    (λ z h. within limit n b w (p + z) h (omega arith))

-- ---- why a cutting stops

why_step : (limit n : ℕ) (s : List ℕ) (p : ℕ) (f : Front) → front limit (drop p s) ≡ f → p ≤ length s
    → ((z : ℕ) → 8 ≤ z → p + z ≤ length s → (cutting limit n s (p + z)).has_bad_size ≡ false
    → front limit (drop (cutting limit n s (p + z)).place s) ≡ More)
    → (cut_by_front p f (cutting limit n s)).has_bad_size ≡ false
    → front limit (drop (cut_by_front p f (cutting limit n s)).place s) ≡ More
why_step limit n s p More e within ih fine = e
why_step limit n s p (Bad z) e within ih fine = absurd (cc)
why_step limit n s p (Whole z) e within ih fine = let x = next_within limit s p z e within in ih z x.0 x.1 fine

pub why : (limit n : ℕ) (s : List ℕ) (p : ℕ) → p ≤ length s → length s ≤ p + n → (cutting limit n s p).has_bad_size ≡ false
    → front limit (drop (cutting limit n s p).place s) ≡ More
unfolding cutting
why limit zero s p within enough fine = front_past limit s p (omega arith)
why limit (suc n) s p within enough fine = why_step limit n s p (front limit (drop p s)) refl within
    (λ z big there. why limit n s (p + z) there (omega arith)) fine

-- ---- the messages that a piece completes

-- if more bytes were needed, the message found with more of them is longer than the bytes before
longer_by : (limit : ℕ) (x y : List ℕ) (f : Front) → Seen limit x f → f ≡ More → (z : ℕ)
    → front limit (x ++ y) ≡ Whole z → length x < z
longer_by limit x y f (short h) e z w = let s = front_stands limit (x ++ y) z w in let big = s.size.header
    in omega (arith, big, h)
longer_by limit x y f (long h size l) e z w = let s = front_stands limit (x ++ y) z w in let t =
    s.told ∙ told_append x y h in omega (arith, t, l)
longer_by limit x y f (whole size l) e z w = absurd (cc)
longer_by limit x y f (bad h none) e z w = absurd (cc)

spoiled_by : (limit : ℕ) (x y : List ℕ) (f : Front) → Seen limit x f → f ≡ More → (z : ℕ) → front limit (x ++ y) ≡ Bad z
    → length x < 8
spoiled_by limit x y f (short h) e z w = h
spoiled_by limit x y f (long h size l) e z w =
    let s = front_spoiled limit (x ++ y) z w in
    let t : z ≡ told_size x = s.told ∙ told_append x y h in
    let yes : is_size limit z ≡ true = subst (λ (n : ℕ). is_size limit n ≡ true) (sym t)
    (is_size-true limit (told_size x) size) in
    absurd (let no = s.none in cc)
spoiled_by limit x y f (whole size l) e z w = absurd (cc)
spoiled_by limit x y f (bad h none) e z w = absurd (cc)

fresh_step : (limit : ℕ) (s t : List ℕ) (p : ℕ) (f : Front) → p ≤ length s → front limit (drop p s) ≡ More
    → drop p (s ++ t) ≡ drop p s ++ t → front limit (drop p (s ++ t)) ≡ f
    → BringsSpans limit (length s) (length (s ++ t)) (cut_by_front p f (cutting limit (length (s ++ t)) (s ++ t))).spans
fresh_step limit s t p More there more apart e = tt
fresh_step limit s t p (Bad z) there more apart e =
    let less = spoiled_by limit (drop p s) t (front limit (drop p s)) (seen limit (drop p s)) more z
    (sym (ap (front limit) apart) ∙ e) in
    let x = front_spoiled limit (drop p (s ++ t)) z e in
    let f = finish_bad limit p z x.none in
    let h = x.header in (
      (
        omega (arith, f, less, length-drop p s, there),
        omega
            (arith, f, h, length-drop p (s ++ t), length-append s t, there),
      ),
      tt,
    )
fresh_step limit s t p (Whole z) there more apart e =
    let less = longer_by limit (drop p s) t (front limit (drop p s)) (seen limit (drop p s)) more z
    (sym (ap (front limit) apart) ∙ e) in
    let x = next_within limit (s ++ t) p z e (omega (arith, there, length-append s t)) in
    let f = finish_good limit p z (whole_size limit (s ++ t) p z e) in
    let in_all = x.1 in (
      (omega (arith, f, less, length-drop p s, there), omega (arith, f, in_all)),
      within limit (length (s ++ t))
          (length s) (s ++ t) (p + z) in_all (omega (arith, less, length-drop p s, there)),
    )

brings_step : (limit : ℕ) (s t : List ℕ) (b : Bool) → (cut limit s).has_bad_size ≡ b
    → BringsSpans limit (length s) (length (s ++ t)) (cond b []
    (cutting limit (length (s ++ t)) (s ++ t) (cut limit s).place).spans)
brings_step limit s t true is = tt
brings_step limit s t false is =
    let p = (cut limit s).place in
    let there : p ≤ length s = place_within limit (length s) s 0 (omega arith) in
    rw (step limit (length (s ++ t)) (s ++ t) p (omega (arith, there, length-append s t)) (omega arith))
    (fresh_step limit s t p (front limit (drop p (s ++ t))) there
    (why limit (length s) s 0 (omega arith) (omega arith) is) (drop-append-le p s t there) refl)

pub piece_brings : (limit : ℕ) (s t : List ℕ) → BringsSpans limit (length s) (length (s ++ t))
    (drop (length (cut limit s).spans) (cut limit (s ++ t)).spans)
piece_brings limit s t = rw (new_spans limit s t) (brings_step limit s t (cut limit s).has_bad_size refl)

-- ---- the messages that the sizes cut off

abbrev parts : (limit : ℕ) → List ℕ → List Span → List (List ℕ)
parts limit s ms = map (part_of s) (sound limit ms)

sound_bad : (limit p z : ℕ) (ms : List Span) → is_size limit z ≡ false → sound limit (span p z ∷ ms) ≡ sound limit ms
sound_bad limit p z ms e = rw e refl

sound_good : (limit p z : ℕ) (ms : List Span) → is_size limit z ≡ true
    → sound limit (span p z ∷ ms) ≡ span p z ∷ sound limit ms
sound_good limit p z ms e = rw e refl

within_more : (limit count : ℕ) (bytes : List ℕ) → front limit bytes ≡ More
    → (cut_within (suc count) limit bytes).messages ≡ []
unfolding cut_within
within_more limit count bytes e = rw (e, cut_within) refl

within_bad : (limit count z : ℕ) (bytes : List ℕ) → front limit bytes ≡ Bad z
    → (cut_within (suc count) limit bytes).messages ≡ []
unfolding cut_within
within_bad limit count z bytes e = rw (e, cut_within) refl

within_whole : (limit count z : ℕ) (bytes : List ℕ) → front limit bytes ≡ Whole z
    → (cut_within (suc count) limit bytes).messages ≡ take z bytes ∷ (cut_within count limit (drop z bytes)).messages
unfolding cut_within
within_whole limit count z bytes e = rw (e, cut_within) refl

parts_step : (limit n : ℕ) (s : List ℕ) (p : ℕ) (f : Front) → front limit (drop p s) ≡ f
    → ((z : ℕ) → parts limit s (cutting limit n s (p + z)).spans ≡ (cut_within n limit (drop (p + z) s)).messages)
    → parts limit s (cut_by_front p f (cutting limit n s)).spans ≡ (cut_within (suc n) limit (drop p s)).messages
parts_step limit n s p More e ih = sym (within_more limit n (drop p s) e)
parts_step limit n s p (Bad z) e ih = ap (map (part_of s))
    (sound_bad limit p z [] (front_spoiled limit (drop p s) z e).none) ∙ sym (within_bad limit n z (drop p s) e)
parts_step limit n s p (Whole z) e ih =
    let d : drop z (drop p s) ≡ drop (p + z) s = drop-drop z p s in
    let first = take z (drop p s) in
    ap (map (part_of s)) (sound_good limit p z (cutting limit n s (p + z)).spans (whole_size limit s p z e))
    ∙ ap (λ (l : List (List ℕ)). first ∷ l) (ih z)
    ∙ ap (λ (b : List ℕ). first ∷ (cut_within n limit b).messages) (sym d) ∙ sym (within_whole limit n z (drop p s) e)

parts_are : (limit n : ℕ) (s : List ℕ) (p : ℕ) → parts limit s (cutting limit n s p).spans
    ≡ (cut_within n limit (drop p s)).messages
unfolding cutting cut_within
parts_are limit zero s p = refl
parts_are limit (suc n) s p = parts_step limit n s p (front limit (drop p s)) refl (λ z. parts_are limit n s (p + z))

pub cut_messages : (limit : ℕ) (s : List ℕ) → parts limit s (cut limit s).spans ≡ messages_in_stream limit s
cut_messages limit s = parts_are limit (length s) s 0
