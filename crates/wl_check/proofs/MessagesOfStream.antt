-- The messages of s ++ t are those of s, followed by those from where the cutting of s stops.
use Rattle.std.proofs.Common.{◌≡◌, ℕ, zero, suc, ◌+◌, ◌<◌, ◌≤◌, Bool, true, false, cond, Some, None}
use Rattle.std.proofs.Common.{List, [], ◌∷◌, ◌++◌, length, drop, refl, sym, ap, ◌∙◌, arith, ltb}
use Rattle.std.proofs.Common.{length-append, subst, get_or, Fits, w8}
use Rattle.std.proofs.lemmas.Bool.{lt-ltb, le-ltb}
use Rattle.std.proofs.lemmas.List.{length-drop, drop_all, drop-append-le}
use Rattle.wl_message.specs.Cut.{is_size, told_size, front, Front, More, Bad, Whole}
use Rattle.wl_message.proofs.Fronts.{front_stands}
use Rattle.wl_message.proofs.Cuts.{front_none, whole_stays, bad_stays}
use Rattle.wl_wire.specs.declared.header.Header.{Header}
use Rattle.wl_wire.specs.Word.{header_at}
use Rattle.wl_wire.proofs.Numbers.{bytewise_from}
use Rattle.wl_wire.proofs.Headers.{header-size}
use Rattle.wl_check.specs.Seen.{size_of}
use Rattle.wl_check.specs.Merged.{Span, span, Cutting, cutting, span_then_cut, cut_by_front, cut}

-- ---- what is at the front, from the code's tests

front_tests : (limit : ℕ) (bytes : List ℕ) (a b c : Bool) → ltb (length bytes) 8 ≡ a
    → is_size limit (told_size bytes) ≡ b → ltb (length bytes) (told_size bytes) ≡ c
    → front limit bytes ≡ cond a More (cond b (cond c More (Whole (told_size bytes))) (Bad (told_size bytes)))
unfolding front
front_tests limit bytes a b c p q r = rw (p, q, r) refl

-- the size in the header that was read at the front
pub told : (bytes : List ℕ) (h : Header) → ((i : ℕ) → Fits w8 (get_or bytes i 0)) → 8 ≤ length bytes
    → h ≡ header_at bytes → h.size ≡ told_size bytes
told bytes h w l e = header-size bytes h.size (bytewise_from bytes w) l (ap (λ (x : Header). x.size) e)

pub front_short : (limit : ℕ) (bytes : List ℕ) → length bytes < 8 → None ≡ size_of (front limit bytes)
front_short limit bytes h = ap size_of (sym (front_tests limit bytes true _ _ (lt-ltb (length bytes) 8 h) refl refl))

pub front_bad : (limit : ℕ) (bytes : List ℕ) (z : ℕ) → z ≡ told_size bytes → 8 ≤ length bytes → is_size limit z ≡ false
    → Some z ≡ size_of (front limit bytes)
front_bad limit bytes z e h bad = rw e (ap size_of
    (sym (front_tests limit bytes false false _ (le-ltb (length bytes) 8 h)
    (subst (λ (n : ℕ). is_size limit n ≡ false) e bad) refl)))

pub front_long : (limit : ℕ) (bytes : List ℕ) (z : ℕ) → z ≡ told_size bytes → 8 ≤ length bytes → is_size limit z ≡ true
    → length bytes < z → None ≡ size_of (front limit bytes)
front_long limit bytes z e h good long = ap size_of
    (sym (front_tests limit bytes false true true (le-ltb (length bytes) 8 h)
    (subst (λ (n : ℕ). is_size limit n ≡ true) e good)
    (lt-ltb (length bytes) (told_size bytes) (omega (arith, e, long)))))

front_good : (limit : ℕ) (bytes : List ℕ) (z : ℕ) → z ≡ told_size bytes → 8 ≤ length bytes → is_size limit z ≡ true
    → z ≤ length bytes → Some z ≡ size_of (front limit bytes)
front_good limit bytes z e h good there = rw e (ap size_of
    (sym (front_tests limit bytes false true false (le-ltb (length bytes) 8 h)
    (subst (λ (n : ℕ). is_size limit n ≡ true) e good)
    (le-ltb (length bytes) (told_size bytes) (omega (arith, e, there))))))

front_by : (limit : ℕ) (bytes : List ℕ) (z : ℕ) (good : Bool) → is_size limit z ≡ good → z ≡ told_size bytes
    → 8 ≤ length bytes → z ≤ length bytes → Some z ≡ size_of (front limit bytes)
front_by limit bytes z true good e h there = front_good limit bytes z e h good there
front_by limit bytes z false bad e h there = front_bad limit bytes z e h bad

-- all bytes of a message are there, whether or not its size is a good one
pub front_there : (limit : ℕ) (bytes : List ℕ) (z : ℕ) → z ≡ told_size bytes → 8 ≤ length bytes
    → z ≤ length bytes → Some z ≡ size_of (front limit bytes)
front_there limit bytes z e h there = front_by limit bytes z (is_size limit z) refl e h there

-- ---- one step of the cutting

pub front_past : (limit : ℕ) (s : List ℕ) (p : ℕ) → length s ≤ p → front limit (drop p s) ≡ More
front_past limit s p h = ap (front limit) (drop_all p s h) ∙ front_none limit

-- if there is a message at a place, the next place is later and within the stream
pub next_within : (limit : ℕ) (s : List ℕ) (p z : ℕ) → front limit (drop p s) ≡ Whole z → p ≤ length s
    → (8 ≤ z) × (p + z ≤ length s)
next_within limit s p z h within = let w = front_stands limit (drop p s) z h
    in (w.size.header, omega (arith, w.there, length-drop p s, within))

front_more : (s t : List ℕ) (p : ℕ) → p ≤ length s → drop p (s ++ t) ≡ drop p s ++ t
front_more s t p within = drop-append-le p s t within

-- any two amounts of fuel that are enough give the same result
fuel_step : (limit n k : ℕ) (s : List ℕ) (p : ℕ) (f : Front) → front limit (drop p s) ≡ f → p ≤ length s
    → ((z : ℕ) → 8 ≤ z → p + z ≤ length s → cutting limit n s (p + z) ≡ cutting limit k s (p + z))
    → cut_by_front p f (cutting limit n s) ≡ cut_by_front p f (cutting limit k s)
fuel_step limit n k s p More e within ih = refl
fuel_step limit n k s p (Bad z) e within ih = refl
fuel_step limit n k s p (Whole z) e within ih = let w = next_within limit s p z e within
    in ap (λ (c : Cutting). span_then_cut (span p z) c) (ih z w.0 w.1)

pub fuel : (limit n k : ℕ) (s : List ℕ) (p : ℕ) → p ≤ length s → length s ≤ p + n → length s ≤ p + k
    → cutting limit n s p ≡ cutting limit k s p
unfolding cutting
fuel limit zero zero s p within a b = refl
fuel limit zero (suc k) s p within a b = rw (front_past limit s p (omega arith)) refl
fuel limit (suc n) zero s p within a b = rw (front_past limit s p (omega arith)) refl
fuel limit (suc n) (suc k) s p within a b = fuel_step limit n k s p (front limit (drop p s)) refl within
    (λ z big there. fuel limit n k s (p + z) there (omega arith) (omega arith))

-- one step, with enough fuel
pub step : (limit j : ℕ) (w : List ℕ) (p : ℕ) → p ≤ length w → length w ≤ j
    → cutting limit j w p ≡ cut_by_front p (front limit (drop p w)) (cutting limit j w)
unfolding cutting
step limit j w p within enough = fuel limit j (suc j) w p within (omega arith) (omega arith)

-- the first cutting, continued by the second unless it stopped at a bad size
abbrev pub goes_on : Cutting → (ℕ → Cutting) → Cutting
goes_on a b = cond a.has_bad_size a (record {
  spans = a.spans ++ (b a.place).spans;
  place = (b a.place).place;
  has_bad_size = (b a.place).has_bad_size;
})

then_goes : (m : Span) (c : Cutting) (f : ℕ → Cutting) (b : Bool) → c.has_bad_size ≡ b
    → span_then_cut m (goes_on c f) ≡ goes_on (span_then_cut m c) f
then_goes m c f true is = rw is refl
then_goes m c f false is = rw is refl

more_step : (limit n j : ℕ) (s t : List ℕ) (p : ℕ) (f : Front) → front limit (drop p s) ≡ f → p ≤ length s
    → length (s ++ t) ≤ j
    → ((z : ℕ) → 8 ≤ z → p + z ≤ length s → cutting limit j (s ++ t) (p + z)
    ≡ goes_on (cutting limit n s (p + z)) (cutting limit j (s ++ t)))
    → cutting limit j (s ++ t) p ≡ goes_on (cut_by_front p f (cutting limit n s)) (cutting limit j (s ++ t))
more_step limit n j s t p More e within enough ih = refl
more_step limit n j s t p (Bad z) e within enough ih =
    let there : front limit (drop p (s ++ t)) ≡ Bad z =
    ap (front limit) (front_more s t p within) ∙ bad_stays limit (drop p s) t z e in
    step limit j (s ++ t) p (omega (arith, length-append s t)) enough ∙ rw there refl
more_step limit n j s t p (Whole z) e within enough ih =
    let w = next_within limit s p z e within in
    let there : front limit (drop p (s ++ t)) ≡ Whole z =
    ap (front limit) (front_more s t p within) ∙ whole_stays limit (drop p s) t z e in
    step limit j (s ++ t) p (omega (arith, length-append s t)) enough
    ∙ (rw (there, ih z w.0 w.1) (then_goes (span p z) (cutting limit n s (p + z)) (cutting limit j (s ++ t))
    (cutting limit n s (p + z)).has_bad_size refl))

pub more : (limit n j : ℕ) (s t : List ℕ) (p : ℕ) → p ≤ length s → length s ≤ p + n → length (s ++ t) ≤ j
    → cutting limit j (s ++ t) p ≡ goes_on (cutting limit n s p) (cutting limit j (s ++ t))
unfolding cutting
more limit zero j s t p within a b = refl
more limit (suc n) j s t p within a b = more_step limit n j s t p (front limit (drop p s)) refl within b
    (λ z big there. more limit n j s t (p + z) there (omega arith) b)

-- the place where the cutting stops is within the stream
place_step : (limit n : ℕ) (s : List ℕ) (p : ℕ) (f : Front) → front limit (drop p s) ≡ f → p ≤ length s
    → ((z : ℕ) → p + z ≤ length s → (cutting limit n s (p + z)).place ≤ length s)
    → (cut_by_front p f (cutting limit n s)).place ≤ length s
place_step limit n s p More e within ih = within
place_step limit n s p (Bad z) e within ih = within
place_step limit n s p (Whole z) e within ih = ih z (next_within limit s p z e within).1

pub place_within : (limit n : ℕ) (s : List ℕ) (p : ℕ) → p ≤ length s → (cutting limit n s p).place ≤ length s
unfolding cutting
place_within limit zero s p within = within
place_within limit (suc n) s p within = place_step limit n s p (front limit (drop p s)) refl within
    (λ z there. place_within limit n s (p + z) there)

pub drop_whole : (xs : List Span) → drop (length xs) xs ≡ []
drop_whole [] = refl
drop_whole (x ∷ xs) = drop_whole xs

pub drop_front : (xs ys : List Span) → drop (length xs) (xs ++ ys) ≡ ys
drop_front [] ys = refl
drop_front (x ∷ xs) ys = drop_front xs ys

-- the messages that a piece completes
new_step : (a : Cutting) (f : ℕ → Cutting) (b : Bool) → a.has_bad_size ≡ b
    → drop (length a.spans) (goes_on a f).spans ≡ cond b [] (f a.place).spans
new_step a f true is = rw is (drop_whole a.spans)
new_step a f false is = rw is (drop_front a.spans (f a.place).spans)

pub new_spans : (limit : ℕ) (s t : List ℕ) → drop (length (cut limit s).spans) (cut limit (s ++ t)).spans
    ≡ cond (cut limit s).has_bad_size [] (cutting limit (length (s ++ t)) (s ++ t) (cut limit s).place).spans
new_spans limit s t = rw (more limit (length s) (length (s ++ t)) s t 0 (omega arith) (omega arith) (omega arith))
    (new_step (cutting limit (length s) s 0) (cutting limit (length (s ++ t)) (s ++ t))
    (cutting limit (length s) s 0).has_bad_size refl)

-- ---- a stream after more bytes
pub fed_good : (limit : ℕ) (s t : List ℕ) → (cut limit s).has_bad_size ≡ false
    → cut limit (s ++ t) ≡ (let x = cutting limit (length (s ++ t)) (s ++ t) (cut limit s).place
    in record { spans = (cut limit s).spans ++ x.spans; place = x.place; has_bad_size = x.has_bad_size })
fed_good limit s t fine = more limit (length s) (length (s ++ t)) s t 0 (omega arith) (omega arith) (omega arith)
    ∙ rw fine refl
