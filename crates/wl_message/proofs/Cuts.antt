-- The messages of a stream, and what is left of it after them.
use Rattle.std.proofs.Common.{◌≡◌, ◌≢◌, ℕ, zero, suc, ◌+◌, ◌*◌, ◌/◌, ◌%◌, ◌<◌, ◌≤◌, ◌^◌, false}
use Rattle.std.proofs.Common.{List, [], ◌∷◌, ◌++◌, length, take, drop, refl, sym, ap, subst, ◌∙◌}
use Rattle.std.proofs.Common.{arith, length-append}
use Rattle.std.specs.List.{concat, AllByRecursion}
use Rattle.std.proofs.lemmas.List.{length-take, length-drop, get_or-take, get_or_append_left}
use Rattle.std.proofs.lemmas.List.{append_assoc, append-nil, take-append-drop, take-append-le}
use Rattle.std.proofs.lemmas.List.{drop-append-le, take_all, drop_all}
use Rattle.std.proofs.lemmas.List.Folds.{concat-append}
use Rattle.wl_wire.specs.declared.header.Header.{Header}
use Rattle.wl_wire.specs.Word.{header_bytes}
use Rattle.wl_message.specs.Cut.{front, Front, More, Bad, Whole, told_size, is_size, IsSize}
use Rattle.wl_message.specs.Cut.{IsMessage, IsCut, Cut, cut_within, messages_in_stream, rest_of}
use Rattle.wl_message.proofs.Fronts.{Seen, short, long, whole, bad, seen, front_stands, is_size-true}

-- ---- the front of a stream

-- further bytes do not change the size in a header
pub told_append : (xs ys : List ℕ) → 8 ≤ length xs → told_size (xs ++ ys) ≡ told_size xs
told_append xs ys h =
    let p = get_or_append_left xs ys 0 6 (omega arith) in
    let q = get_or_append_left xs ys 0 7 (omega arith) in
    λ i. p i + 256 * q i

told_take : (n : ℕ) (xs : List ℕ) → 8 ≤ n → told_size (take n xs) ≡ told_size xs
told_take n xs h =
    let p = get_or-take n xs 6 0 (omega arith) in
    let q = get_or-take n xs 7 0 (omega arith) in
    λ i. p i + 256 * q i

whole_at : (limit : ℕ) (bytes : List ℕ) (f : Front) → Seen limit bytes f → IsSize limit (told_size bytes)
    → told_size bytes ≤ length bytes → f ≡ Whole (told_size bytes)
whole_at limit bytes f (short p) s h = let l = s.header in absurd (omega (arith, l))
whole_at limit bytes f (long p q r) s h = absurd (omega arith)
whole_at limit bytes f (whole q r) s h = refl
whole_at limit bytes f (bad p q) s h = let e = is_size-true limit (told_size bytes) s in absurd (cc (e, q))

-- a whole message at the front is found
pub front_whole : (limit : ℕ) (bytes : List ℕ) → IsSize limit (told_size bytes) → told_size bytes ≤ length bytes
    → front limit bytes ≡ Whole (told_size bytes)
front_whole limit bytes s h = whole_at limit bytes (front limit bytes) (seen limit bytes) s h

-- it is found whatever follows it
pub front_message : (limit : ℕ) (m more : List ℕ) → IsMessage limit m → front limit (m ++ more) ≡ Whole (length m)
front_message limit m more h =
    let e : told_size (m ++ more) ≡ length m = told_append m more h.size.header ∙ h.told in
    front_whole limit (m ++ more) (subst (IsSize limit) (sym e) h.size) (omega (arith, e, length-append m more))
    ∙ ap Whole e

-- the message found at the front is whole
pub message_there : (limit : ℕ) (bytes : List ℕ) (n : ℕ) → front limit bytes ≡ Whole n → IsMessage limit (take n bytes)
message_there limit bytes n h =
    let s = front_stands limit bytes n h in
    let l : length (take n bytes) ≡ n = omega (arith, length-take n bytes, s.there) in
    record { told = told_take n bytes s.size.header ∙ sym s.told ∙ sym l; size = subst (IsSize limit) (sym l) s.size }

-- a message found at the front is still found if more bytes come
pub whole_stays : (limit : ℕ) (bytes more : List ℕ) (n : ℕ) → front limit bytes ≡ Whole n
    → front limit (bytes ++ more) ≡ Whole n
whole_stays limit bytes more n h =
    let s = front_stands limit bytes n h in
    let e : told_size (bytes ++ more) ≡ n = told_append bytes more (omega (arith, s.size.header, s.there))
    ∙ sym s.told in
    front_whole limit (bytes ++ more) (subst (IsSize limit) (sym e) s.size)
    (omega (arith, e, s.there, length-append bytes more)) ∙ ap Whole e

bad_at : (limit : ℕ) (bytes : List ℕ) (f : Front) → Seen limit bytes f → 8 ≤ length bytes
    → is_size limit (told_size bytes) ≡ false → f ≡ Bad (told_size bytes)
bad_at limit bytes f (short p) h e = absurd (omega arith)
bad_at limit bytes f (long p q r) h e = let t = is_size-true limit (told_size bytes) q in absurd (cc (e, t))
bad_at limit bytes f (whole q r) h e = let t = is_size-true limit (told_size bytes) q in absurd (cc (e, t))
bad_at limit bytes f (bad p q) h e = refl

-- a bad size: there is a header, and no message may have the size in it
pub record Spoiled (limit : ℕ) (bytes : List ℕ) (n : ℕ) : Type 0 where
  pub told : n ≡ told_size bytes
  pub header : 8 ≤ length bytes
  pub none : is_size limit n ≡ false

spoiled_at : (limit : ℕ) (bytes : List ℕ) (n : ℕ) (f : Front) → Seen limit bytes f → f ≡ Bad n → Spoiled limit bytes n
spoiled_at limit bytes n f (short p) e = absurd (cc e)
spoiled_at limit bytes n f (long p q r) e = absurd (cc e)
spoiled_at limit bytes n f (whole q r) e = absurd (cc e)
spoiled_at limit bytes n f (bad p q) e =
    let is : told_size bytes ≡ n = cc e in
    record { told = sym is; header = p; none = subst (λ (k : ℕ). is_size limit k ≡ false) is q }

pub front_spoiled : (limit : ℕ) (bytes : List ℕ) (n : ℕ) → front limit bytes ≡ Bad n → Spoiled limit bytes n
front_spoiled limit bytes n h = spoiled_at limit bytes n (front limit bytes) (seen limit bytes) h

pub bad_stays : (limit : ℕ) (bytes more : List ℕ) (n : ℕ) → front limit bytes ≡ Bad n
    → front limit (bytes ++ more) ≡ Bad n
bad_stays limit bytes more n h =
    let s = front_spoiled limit bytes n h in
    let e : told_size (bytes ++ more) ≡ n = told_append bytes more s.header ∙ sym s.told in
    bad_at limit (bytes ++ more) (front limit (bytes ++ more)) (seen limit (bytes ++ more))
    (omega (arith, s.header, length-append bytes more)) (subst (λ (k : ℕ). is_size limit k ≡ false) (sym e) s.none)
    ∙ ap Bad e

pub front_none : (limit : ℕ) → front limit [] ≡ More
unfolding front
front_none limit = refl

told_header : (n o : ℕ) → n < 2 ^ 16 → o < 2 ^ 16
    → (n * 65536 + o) / 65536 % 256 + 256 * ((n * 65536 + o) / 16777216 % 256) ≡ n
told_header n o p q = omega arith

-- a header and arguments are a message if the header has their length as its size
pub headed : (limit : ℕ) (header : Header) (arguments : List ℕ)
    → header.size ≡ length (header_bytes header ++ arguments) → header.size < 2 ^ 16 → header.opcode < 2 ^ 16
    → IsSize limit header.size → IsMessage limit (header_bytes header ++ arguments)
headed limit header arguments e s o h =
    let same : told_size (header_bytes header) ≡ header.size = told_header header.size header.opcode s o in
    record {
      told = told_append (header_bytes header) arguments (omega arith) ∙ same ∙ e;
      size = subst (IsSize limit) e h;
    }

-- ---- the cut

cut_more : (limit : ℕ) (bytes : List ℕ) (count : ℕ) → front limit bytes ≡ More
    → cut_within count limit bytes ≡ record { messages = []; rest = bytes }
unfolding cut_within
cut_more limit bytes zero h = refl
cut_more limit bytes (suc count) h = rw (h, cut_within) refl

cut_bad : (limit : ℕ) (bytes : List ℕ) (count n : ℕ) → front limit bytes ≡ Bad n
    → cut_within count limit bytes ≡ record { messages = []; rest = bytes }
unfolding cut_within
cut_bad limit bytes zero n h = refl
cut_bad limit bytes (suc count) n h = rw (h, cut_within) refl

cut_whole : (limit : ℕ) (bytes : List ℕ) (count n : ℕ) → front limit bytes ≡ Whole n
    → cut_within (suc count) limit bytes ≡ record {
      messages = take n bytes
          ∷ (cut_within count limit (drop n bytes)).messages;
      rest = (cut_within count limit (drop n bytes)).rest;
    }
unfolding cut_within
cut_whole limit bytes count n h = rw (h, cut_within) refl

none_at : (limit : ℕ) (bytes : List ℕ) (count : ℕ) (f : Front) → front limit bytes ≡ f
    → ((n : ℕ) → front limit bytes ≢ Whole n) → cut_within count limit bytes ≡ record { messages = []; rest = bytes }
none_at limit bytes count More e h = cut_more limit bytes count e
none_at limit bytes count (Bad n) e h = cut_bad limit bytes count n e
none_at limit bytes count (Whole n) e h = absurd (h n e)

-- a cut has at most as many messages as bytes
few : (limit : ℕ) (ms : List (List ℕ)) → AllByRecursion (IsMessage limit) ms → length ms ≤ length (concat ms)
few limit [] h = omega arith
few limit (m ∷ ms) h = omega (arith, few limit ms h.1, h.0.size.header, length-append m (concat ms))

take_front : (xs ys : List ℕ) → take (length xs) (xs ++ ys) ≡ xs
take_front xs ys = take-append-le (length xs) xs ys (omega arith) ∙ take_all (length xs) xs (omega arith)

drop_front : (xs ys : List ℕ) → drop (length xs) (xs ++ ys) ≡ ys
drop_front xs ys = drop-append-le (length xs) xs ys (omega arith)
    ∙ ap (λ (l : List ℕ). l ++ ys) (drop_all (length xs) xs (omega arith))

-- cutting joined messages gives these messages
joined_cut : (limit : ℕ) (ms : List (List ℕ)) (r : List ℕ) (count : ℕ) → AllByRecursion (IsMessage limit) ms
    → ((n : ℕ) → front limit r ≢ Whole n) → length ms ≤ count
    → cut_within count limit (concat ms ++ r) ≡ record { messages = ms; rest = r }
joined_cut limit [] r count w l h = none_at limit r count (front limit r) refl l
joined_cut limit (m ∷ ms) r zero w l h = absurd (omega arith)
joined_cut limit (m ∷ ms) r (suc count) w l h =
    let e : (m ++ concat ms) ++ r ≡ m ++ (concat ms ++ r) = append_assoc m (concat ms) r in
    let f = front_message limit m (concat ms ++ r) w.0 in
    let i = joined_cut limit ms r count w.1 l (omega arith) in
    let t = take_front m (concat ms ++ r) in
    let d = drop_front m (concat ms ++ r) in
    ap (λ (s : List ℕ). cut_within (suc count) limit s) e ∙ cut_whole limit (m ++ (concat ms ++ r)) count (length m) f
    ∙ (λ k. record {
      messages = t k ∷ (cut_within count limit (d k)).messages;
      rest = (cut_within count limit (d k)).rest;
    })
    ∙ (λ k. record { messages = m ∷ (i k).messages; rest = (i k).rest })

-- a stream has only one cut
pub one_cut : (limit : ℕ) (stream : List ℕ) (ms : List (List ℕ)) (r : List ℕ) → IsCut limit stream ms r
    → cut_within (length stream) limit stream ≡ record { messages = ms; rest = r }
one_cut limit stream ms r c =
    let l : length stream ≡ length (concat ms) + length r =
    ap (λ (s : List ℕ). length s) c.joined ∙ length-append (concat ms) r in
    ap (λ (s : List ℕ). cut_within (length stream) limit s) c.joined
    ∙ joined_cut limit ms r (length stream) c.whole c.last (omega (arith, l, few limit ms c.whole))

empty : (xs : List ℕ) → length xs ≡ 0 → xs ≡ []
empty [] h = refl
empty (x ∷ xs) h = absurd (omega arith)

no_message : (limit : ℕ) (bytes : List ℕ) (f : Front) → front limit bytes ≡ f → ((n : ℕ) → f ≢ Whole n)
    → IsCut limit bytes [] bytes
no_message limit bytes f e h = record { joined = refl; whole = tt; last = λ n w. h n (sym e ∙ w) }

-- the message at the front, and the cut of the bytes after it
pub cut_step : (limit : ℕ) (bytes : List ℕ) (n : ℕ) (ms : List (List ℕ)) (r : List ℕ) → front limit bytes ≡ Whole n
    → IsCut limit (drop n bytes) ms r → IsCut limit bytes (take n bytes ∷ ms) r
cut_step limit bytes n ms r h c = record {
  joined = sym (take-append-drop n bytes) ∙ ap (λ (l : List ℕ). take n bytes ++ l) c.joined
      ∙ sym (append_assoc (take n bytes) (concat ms) r);
  whole = (message_there limit bytes n h, c.whole);
  last = c.last;
}

cut_at : (limit : ℕ) (count : ℕ) (bytes : List ℕ) (f : Front) → front limit bytes ≡ f
    → ((n : ℕ) → front limit bytes ≡ Whole n → IsCut limit (drop n bytes)
    (cut_within count limit (drop n bytes)).messages (cut_within count limit (drop n bytes)).rest)
    → IsCut limit bytes (cut_within (suc count) limit bytes).messages (cut_within (suc count) limit bytes).rest
cut_at limit count bytes More e h = rw (cut_more limit bytes (suc count) e)
    (no_message limit bytes More e (λ n x. cc x))
cut_at limit count bytes (Bad b) e h = rw (cut_bad limit bytes (suc count) b e)
    (no_message limit bytes (Bad b) e (λ n x. cc x))
cut_at limit count bytes (Whole n) e h = rw (cut_whole limit bytes count n e) (cut_step limit bytes n _ _ e (h n e))

cut_enough : (limit : ℕ) (count : ℕ) (bytes : List ℕ) → length bytes ≤ count
    → IsCut limit bytes (cut_within count limit bytes).messages (cut_within count limit bytes).rest
cut_enough limit zero bytes h =
    let e : front limit bytes ≡ More = ap (front limit) (empty bytes (omega arith)) ∙ front_none limit in
    rw (cut_more limit bytes zero e) (no_message limit bytes More e (λ n x. cc x))
cut_enough limit (suc count) bytes h =
    cut_at limit count bytes (front limit bytes) refl
    (λ n w. let s = front_stands limit bytes n w in cut_enough limit count (drop n bytes)
    (omega (arith, length-drop n bytes, s.size.header)))

-- each stream has a cut
pub is_cut : (limit : ℕ) (stream : List ℕ) → IsCut limit stream (messages_in_stream limit stream) (rest_of limit stream)
is_cut limit stream = cut_enough limit (length stream) stream (omega arith)

pub messages_one : (limit : ℕ) (stream : List ℕ) (ms : List (List ℕ)) (r : List ℕ) → IsCut limit stream ms r
    → (messages_in_stream limit stream ≡ ms) × (rest_of limit stream ≡ r)
messages_one limit stream ms r c = let e = one_cut limit stream ms r c
    in (ap (λ (k : Cut). k.messages) e, ap (λ (k : Cut). k.rest) e)

pub all_append : {X : Type 0} (P : X → Type 0) (xs ys : List X) → AllByRecursion P xs → AllByRecursion P ys
    → AllByRecursion P (xs ++ ys)
all_append P [] ys p q = q
all_append P (x ∷ xs) ys p q = (p.0, all_append P xs ys p.1 q)

-- the cut of a stream that arrives in two parts
pub cut_append : (limit : ℕ) (xs ys : List ℕ) (ms ns : List (List ℕ)) (r t : List ℕ) → IsCut limit xs ms r
    → IsCut limit (r ++ ys) ns t → IsCut limit (xs ++ ys) (ms ++ ns) t
cut_append limit xs ys ms ns r t c d = record {
  joined =
      ap (λ (l : List ℕ). l ++ ys) c.joined ∙ append_assoc (concat ms) r ys
      ∙ ap (λ (l : List ℕ). concat ms ++ l) d.joined
      ∙ sym (append_assoc (concat ms) (concat ns) t) ∙ ap (λ (l : List ℕ). l ++ t) (sym (concat-append ms ns));
  whole = all_append (IsMessage limit) ms ns c.whole d.whole;
  last = d.last;
}

pub messages_append : (limit : ℕ) (xs ys : List ℕ)
    → (messages_in_stream limit (xs ++ ys) ≡ messages_in_stream limit xs
    ++ messages_in_stream limit (rest_of limit xs ++ ys))
    × (rest_of limit (xs ++ ys) ≡ rest_of limit (rest_of limit xs ++ ys))
messages_append limit xs ys = messages_one limit (xs ++ ys) _ _
    (cut_append limit xs ys _ _ _ _ (is_cut limit xs) (is_cut limit (rest_of limit xs ++ ys)))

none_empty : (limit : ℕ) (n : ℕ) → front limit [] ≢ Whole n
none_empty limit n h = let e = front_none limit in cc (e, h)

-- joined messages are cut into themselves
pub messages_joined : (limit : ℕ) (ms : List (List ℕ)) → AllByRecursion (IsMessage limit) ms
    → (messages_in_stream limit (concat ms) ≡ ms) × (rest_of limit (concat ms) ≡ [])
messages_joined limit ms w = messages_one limit (concat ms) ms []
    (record { joined = sym (append-nil (concat ms)); whole = w; last = none_empty limit })

-- the first message, and the messages of the bytes after it
pub messages_whole : (limit : ℕ) (bytes : List ℕ) (n : ℕ) → front limit bytes ≡ Whole n
    → (messages_in_stream limit bytes ≡ take n bytes ∷ messages_in_stream limit (drop n bytes))
    × (rest_of limit bytes ≡ rest_of limit (drop n bytes))
messages_whole limit bytes n h = messages_one limit bytes _ _
    (cut_step limit bytes n _ _ h (is_cut limit (drop n bytes)))

pub messages_none : (limit : ℕ) (bytes : List ℕ) → ((n : ℕ) → front limit bytes ≢ Whole n)
    → (messages_in_stream limit bytes ≡ []) × (rest_of limit bytes ≡ bytes)
messages_none limit bytes h = messages_one limit bytes [] bytes (record { joined = refl; whole = tt; last = h })
