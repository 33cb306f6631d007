-- The front of a queue.
use Rattle.std.proofs.Common.{◌≡◌, ℕ, ◌+◌, ◌-◌, ◌<◌, ◌≤◌, Bool, true, false, cond, List, [], ◌++◌}
use Rattle.std.proofs.Common.{length, take, drop, refl, sym, ap, subst, ◌∙◌, arith}
use Rattle.std.proofs.Common.{ltb, min}
use Rattle.std.proofs.lemmas.Bool.Decides.{nat_tests}
use Rattle.std.proofs.lemmas.List.{append-nil, take-append-le, take-append-drop, length-append, length-take, length-take-le}
use Rattle.std.proofs.lemmas.List.{drop_all, take_all}
use Rattle.std.proofs.Math.Seq.{take-add, take-append-add}
use Rattle.circular_buffer.specs.Buffer.{keep_last}
use Rattle.wl_wire.specs.Word.{header_bytes}
use Rattle.wl_wire.specs.declared.header.Header.{Header}
use Rattle.wl_message.specs.Arrived.{HasParts}
use Rattle.wl_message.specs.Cut.{front, Front, More, Bad, Whole, told_size, is_size, IsSize, HasMessage, message_size}

-- the test implies the fact
pub size_is : (limit n : ℕ) → is_size limit n ≡ true → IsSize limit n
size_is limit n h = record {
  header = grind (arith, nat_tests);
  words = grind (arith, nat_tests);
  within = grind (arith, nat_tests);
}

pub is_size-true : (limit n : ℕ) → IsSize limit n → is_size limit n ≡ true
is_size-true limit n h = grind (arith, nat_tests, h.header, h.words, h.within)

-- the cases of the front
pub data Seen (limit : ℕ) (bytes : List ℕ) : Front → Type 0 where
  short : length bytes < 8 → Seen limit bytes More
  long : 8 ≤ length bytes → IsSize limit (told_size bytes) → length bytes < told_size bytes → Seen limit bytes More
  whole : IsSize limit (told_size bytes) → told_size bytes ≤ length bytes → Seen limit bytes (Whole (told_size bytes))
  bad : 8 ≤ length bytes → is_size limit (told_size bytes) ≡ false → Seen limit bytes (Bad (told_size bytes))

seen_at : (limit : ℕ) (bytes : List ℕ) (a b c : Bool) → ltb (length bytes) 8 ≡ a → is_size limit (told_size bytes) ≡ b
    → ltb (length bytes) (told_size bytes) ≡ c
    → Seen limit bytes (cond a More (cond b (cond c More (Whole (told_size bytes))) (Bad (told_size bytes))))
seen_at limit bytes true b c p q r = short (grind (arith, nat_tests))
seen_at limit bytes false true true p q r = long (grind (arith, nat_tests)) (size_is limit _ q)
    (grind (arith, nat_tests))
seen_at limit bytes false true false p q r = whole (size_is limit _ q) (grind (arith, nat_tests))
seen_at limit bytes false false c p q r = bad (grind (arith, nat_tests)) q

pub seen : (limit : ℕ) (bytes : List ℕ) → Seen limit bytes (front limit bytes)
unfolding front
seen limit bytes = seen_at limit bytes _ _ _ refl refl refl

-- a whole message at the front: its size is in the header and allowed, and its bytes are there
pub record Stands (limit : ℕ) (bytes : List ℕ) (n : ℕ) : Type 0 where
  pub told : n ≡ told_size bytes
  pub size : IsSize limit n
  pub there : n ≤ length bytes

stands_at : (limit : ℕ) (bytes : List ℕ) (n : ℕ) (f : Front) → Seen limit bytes f → f ≡ Whole n → Stands limit bytes n
stands_at limit bytes n f (short p) e = absurd (cc e)
stands_at limit bytes n f (long p q r) e = absurd (cc e)
stands_at limit bytes n f (bad p q) e = absurd (cc e)
stands_at limit bytes n f (whole q r) e =
    let is : told_size bytes ≡ n = cc e in
    record { told = sym is; size = subst (IsSize limit) is q; there = subst (λ (k : ℕ). k ≤ length bytes) is r }

pub front_stands : (limit : ℕ) (bytes : List ℕ) (n : ℕ) → front limit bytes ≡ Whole n → Stands limit bytes n
front_stands limit bytes n h = stands_at limit bytes n (front limit bytes) (seen limit bytes) h

-- the size of the message at the front
has_at : (f : Front) → HasMessage f → f ≡ Whole (message_size f)
has_at More h = absurd h
has_at (Bad n) h = absurd h
has_at (Whole n) h = refl

pub has_message : (limit : ℕ) (bytes : List ℕ) → HasMessage (front limit bytes)
    → Stands limit bytes (message_size (front limit bytes))
has_message limit bytes h = front_stands limit bytes _ (has_at (front limit bytes) h)

-- the bytes of a message are its header and the rest
pub parts_of : (bytes : List ℕ) (h : Header) → 8 ≤ h.size → h.size ≤ length bytes → take 8 bytes ≡ header_bytes h
    → HasParts bytes h
parts_of bytes h low there e =
    let n : 8 + (h.size - 8) ≡ h.size = omega arith in
    record {
      header = low;
      there = there;
      parts = ap (λ (k : ℕ). take k bytes) (sym n) ∙ take-add 8 (h.size - 8) bytes
          ∙ ap (λ (l : List ℕ). l ++ take (h.size - 8) (drop 8 bytes)) e;
    }

-- a header alone has no body
pub header_alone : (xs : List ℕ) → drop 8 (take 8 xs) ≡ []
header_alone xs = drop_all 8 (take 8 xs) (omega (arith, length-take 8 xs))

-- a prefix of two joined lists that ends in the first is a prefix of the first
pub front_of_first : {X : Type 0} (a b c : List X) (n : ℕ) → a ++ b ≡ c → n ≤ length a → take n a ≡ take n c
front_of_first a b c n e h = sym (take-append-le n a b h) ∙ ap (take n) e

-- of such a prefix, nothing is from the second list
pub front_in_first : {X : Type 0} (a b c : List X) (n : ℕ) → a ++ b ≡ c → n ≤ length a
    → take n a ++ take 0 b ≡ take n c
front_in_first a b c n e h = append-nil (take n a) ∙ front_of_first a b c n e h

-- a prefix that goes past the first list
pub front_past_first : {X : Type 0} (a b c : List X) (n : ℕ) → a ++ b ≡ c → length a ≤ n
    → a ++ take (n - length a) b ≡ take n c
front_past_first a b c n e h =
    let k : length a + (n - length a) ≡ n = omega (arith, h) in
    sym (take-append-add a b (n - length a)) ∙ ap (λ (m : ℕ). take m (a ++ b)) k ∙ ap (take n) e

-- the length of a prefix in two parts
pub parts_len : {X : Type 0} (a b c : List X) (n : ℕ) → a ++ b ≡ take n c → n ≤ length c → length a + length b ≡ n
parts_len a b c n e h = sym (length-append a b) ∙ ap length e ∙ length-take-le n c h

-- to keep the last items is to drop the others
pub keep_rest : {X : Type 0} (xs : List X) (n k : ℕ) → k ≡ length xs - n → n ≤ length xs
    → keep_last k xs ≡ drop n xs
keep_rest xs n k e h = let same : length xs - k ≡ n = omega (arith, e, h) in ap (λ (m : ℕ). drop m xs) same

-- what there is room for is taken whole
pub all_fits : {X : Type 0} (xs : List X) (n room : ℕ) → n ≡ min (length xs) room → length xs ≤ room → take n xs ≡ xs
all_fits xs n room e h = take_all n xs (omega (arith, e, h))

-- two ends of a list that meet are the list, whatever was behind the first
pub ends_joined : {X : Type 0} (xs ys : List X) (k n : ℕ) → n + k ≡ length xs → n ≤ k
    → take n (take k xs ++ ys) ++ drop n xs ≡ xs
ends_joined xs ys k n e h =
    let there : n ≤ length (take k xs) = omega (arith, e, h, length-take k xs) in
    ap (λ (l : List _). l ++ drop n xs) (take-append-le n (take k xs) ys there
    ∙ front_of_first (take k xs) (drop k xs) xs n (take-append-drop k xs) there)
    ∙ take-append-drop n xs
