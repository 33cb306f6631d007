-- One line of a stream, and the lines before it.
use Rattle.std.proofs.Common.{◌≡◌, ◌≢◌, ◌∙◌, ◌+◌, ◌-◌, ◌<◌, ◌==◌, ℕ, Bool, true, false, cond, List, [], ◌∷◌, ◌++◌}
use Rattle.std.proofs.Common.{Option, Some, None, length, take, take_all, slice_index, refl, sym, ap, subst, arith}
use Rattle.std.proofs.Common.{append_assoc, append-nil, suc, ◌&&◌}
use Rattle.std.specs.Prelude.{IfSome, nat_lt}
use Rattle.std.specs.List.{All}
use Rattle.std.specs.Io.{StopsAt}
use Rattle.std.specs.Io.BufRead.{ends_with_byte, take_through}
use Rattle.std.specs.Io.KnownBytes.{Consumes}
use Rattle.std.specs.Str.Lines.{lines, strip_carriage_return}
use Rattle.std.proofs.lemmas.Bool.{eqb-true, lt-ltb}
use Rattle.std.proofs.lemmas.List.{take_more}
use Rattle.std.proofs.lemmas.List.Elements.{All-nil, All-cons, All-append}
use Rattle.wl_recording.specs.Text.{IsFirstBad, IsGood}
use Rattle.wl_text.proofs.Cuts.{lines_ended, lines_last}
use Rattle.program_stream.specs.Streams.{AreWhole, IsWhole}

-- a list is all but its last element, and that
split_last : (xs : List ℕ) → 0 < length xs → xs ≡ take (length xs - 1) xs ++ slice_index xs (length xs - 1) ∷ []
split_last xs some =
    sym (take_all (length xs - 1 + 1) xs (omega arith)) ∙ take_more xs (length xs - 1) 0 (omega (arith, some))

second : (first other b : Bool) → first ≡ true → (first && other) ≡ b → other ≡ b
second true other b holds is = is
second false other b holds is = cc holds

both : (first other b : Bool) → first ≡ true → other ≡ b → (first && other) ≡ b
both true other b holds is = is
both false other b holds is = cc holds

some_test : (xs : List ℕ) → 0 < length xs → nat_lt 0 (length xs) ≡ true
some_test xs some = lt-ltb 0 (length xs) some

-- the test of the last byte
last_is : (xs : List ℕ) → 0 < length xs → (b : Bool) → ends_with_byte 10 xs ≡ b
    → (slice_index xs (length xs - 1) == 10) ≡ b
last_is xs some b is = second _ _ b (some_test xs some) is

ends_as : (xs : List ℕ) → 0 < length xs → (b : Bool) → (slice_index xs (length xs - 1) == 10) ≡ b
    → ends_with_byte 10 xs ≡ b
ends_as xs some b is = both _ _ b (some_test xs some) is

-- the last byte of a longer list
later : (x : ℕ) (t : List ℕ) → ends_with_byte 10 (x ∷ t) ≡ false → ends_with_byte 10 t ≡ false
later x [] e = refl
later x (y ∷ t) e =
    let place : length (x ∷ y ∷ t) - 1 ≡ suc (length (y ∷ t) - 1) = omega arith in
    ends_as (y ∷ t) (omega arith) false
    (subst (λ (n : ℕ). (slice_index (x ∷ y ∷ t) n == 10) ≡ false) place (last_is (x ∷ y ∷ t) (omega arith) false e))

take_line : (x : ℕ) (xs : List ℕ) → (b : Bool) → (x == 10) ≡ b
    → (ends_with_byte 10 (take_through 10 xs) ≡ false → take_through 10 xs ≡ xs)
    → ends_with_byte 10 (cond b (x ∷ []) (x ∷ take_through 10 xs)) ≡ false
    → cond b (x ∷ []) (x ∷ take_through 10 xs) ≡ x ∷ xs
take_line x xs true is more e = let fails = last_is (x ∷ []) (omega arith) false e in cc (is, fails)
take_line x xs false is more e = ap (λ (l : List ℕ). x ∷ l) (more (later x (take_through 10 xs) e))

-- a line that has no line feed at its end is all that was left
all_taken : (xs : List ℕ) → ends_with_byte 10 (take_through 10 xs) ≡ false → take_through 10 xs ≡ xs
all_taken [] bare = refl
all_taken (x ∷ xs) bare = take_line x xs (x == 10) refl (all_taken xs) bare

pub last_line : (known : Option (List ℕ)) (none line : List ℕ) → none ≡ []
    → IfSome known (λ xs. line ≡ none ++ take_through 10 xs) → ends_with_byte 10 line ≡ false → IsWhole known line
last_line None none line empty taken bare = tt
last_line (Some xs) none line empty taken bare =
    let is : line ≡ take_through 10 xs = taken ∙ ap (λ (l : List ℕ). l ++ take_through 10 xs) empty in
    is ∙ all_taken xs (subst (λ (l : List ℕ). ends_with_byte 10 l ≡ false) is bare)

-- The bytes of a line are one line, whatever follows its line feed.
pub record IsOneLine (bytes : List ℕ) : Type 0 where
  pub line : List ℕ
  pub alone : lines bytes ≡ line ∷ []
  pub ended : ends_with_byte 10 bytes ≡ true → (rest : List ℕ) → lines (bytes ++ rest) ≡ line ∷ lines rest

pub one_line : (bytes : List ℕ) → 0 < length bytes → StopsAt bytes 10 → IsOneLine bytes
one_line bytes some stops = by (ends_with_byte 10 bytes) refl
  where
    front : List ℕ
    front = take (length bytes - 1) bytes

    ended_by : slice_index bytes (length bytes - 1) ≡ 10 → bytes ≡ front ++ 10 ∷ []
    ended_by is = split_last bytes some ∙ ap (λ (x : ℕ). front ++ x ∷ []) is

    by : (b : Bool) → ends_with_byte 10 bytes ≡ b → IsOneLine bytes
    by true is =
        let whole = ended_by (eqb-true _ _ (last_is bytes some true is)) in
        record {
          line = strip_carriage_return front;
          alone = ap lines whole ∙ lines_ended front [] stops;
          ended = λ holds rest. ap (λ (l : List ℕ). lines (l ++ rest)) whole
              ∙ ap lines (append_assoc front (10 ∷ []) rest) ∙ lines_ended front rest stops;
        }
    by false is =
        let other : slice_index bytes (length bytes - 1) ≢ 10 =
        λ e. let holds = last_is bytes some false is in cc (e, holds) in
        let clean : All (λ b. b ≢ 10) bytes = subst (All (λ b. b ≢ 10)) (sym (split_last bytes some))
        (All-append (λ b. b ≢ 10) front (slice_index bytes (length bytes - 1) ∷ []) stops
        (All-cons (λ b. b ≢ 10) (slice_index bytes (length bytes - 1)) [] other (All-nil (λ b. b ≢ 10)))) in
        record { line = bytes; alone = lines_last bytes some clean; ended = λ holds. cc (holds, is) }

-- a text of one line has no other bad line
pub bad_one : (text line : List ℕ) (n : ℕ) → IsFirstBad text n → lines text ≡ line ∷ [] → IsGood line → ⊥
bad_one text line n bad one good = by bad.before bad.whole
  where
    by : (before : List (List ℕ)) → lines text ≡ before ++ bad.line ∷ bad.after → ⊥
    by [] whole = let same : line ≡ bad.line = cc (whole, one) in bad.bad (subst IsGood same good)
    by (first ∷ []) whole = cc (whole, one)
    by (first ∷ next ∷ more) whole = cc (whole, one)

-- ---- what was read so far

-- all that a reader had, after some of it and its last line
pub whole_after : (known left : Option (List ℕ)) (bytes line : List ℕ) → Consumes known left bytes → IsWhole left line
    → IsWhole known (bytes ++ line)
whole_after None left bytes line consumed is = tt
whole_after (Some x) None bytes line consumed is = absurd consumed
whole_after (Some x) (Some y) bytes line consumed is = ap (λ (l : List ℕ). bytes ++ l) is ∙ sym consumed

-- some text that begins with what was read, and is all that the reader had, if that is known
pub record BeginsWith (known : Option (List ℕ)) (bytes : List ℕ) : Type 0 where
  pub text : List ℕ
  pub whole : IsWhole known text
  pub rest : List ℕ
  pub is : text ≡ bytes ++ rest

pub begins : (known left : Option (List ℕ)) (bytes : List ℕ) → Consumes known left bytes → BeginsWith known bytes
begins None left bytes consumed = record { text = bytes; whole = tt; rest = []; is = sym (append-nil bytes) }
begins (Some x) None bytes consumed = absurd consumed
begins (Some x) (Some y) bytes consumed = record { text = x; whole = refl; rest = y; is = consumed }

-- one more line
pub whole_more : (bytes line one : List ℕ) (before : List (List ℕ)) → AreWhole bytes before
    → ((rest : List ℕ) → lines (line ++ rest) ≡ one ∷ lines rest) → AreWhole (bytes ++ line) (before ++ one ∷ [])
whole_more bytes line one before whole ended rest =
    ap lines (append_assoc bytes line rest) ∙ whole (line ++ rest)
    ∙ ap (λ (l : List (List ℕ)). before ++ l) (ended rest) ∙ sym (append_assoc before (one ∷ []) (lines rest))

-- ---- tests of a list's length

pub none_in : (xs : List ℕ) (n : ℕ) (b : Bool) → b ≡ (n == 0) → n ≡ length xs → b ≡ true → xs ≡ []
none_in [] n b test is empty = refl
none_in (x ∷ xs) n b test is empty =
    let zero : n ≡ 0 = eqb-true _ _ (sym test ∙ empty) in absurd (omega (arith, zero, is))

pub some_in : (xs : List ℕ) (n : ℕ) (b : Bool) → b ≡ (n == 0) → n ≡ length xs → b ≡ false → 0 < length xs
some_in [] n b test is filled =
    let empty : b ≡ true = subst (λ (m : ℕ). b ≡ (m == 0)) is test in absurd (cc (empty, filled))
some_in (x ∷ xs) n b test is filled = omega arith
