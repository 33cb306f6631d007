-- A reader's result is right: the value that it finds is spelled by the bytes, and the fault that
-- it reports is the first one.
use Rattle.std.proofs.Common.{◌≡◌, ◌≢◌, ℕ, ◌+◌, ◌-◌, ◌^◌, ◌<◌, ◌≤◌, Bool, true, false, List, []}
use Rattle.std.proofs.Common.{◌∷◌, ◌++◌, length, get_or, take, drop, Some, None, refl, sym, ap}
use Rattle.std.proofs.Common.{subst, ◌∙◌, arith, append_assoc, inl, inr}
use Rattle.std.specs.Prelude.{slice_index, ◌==◌, ◌&&◌, nat_lt, Result, Ok, Err, MatchResult, Contains}
use Rattle.std.specs.List.{All, list_any}
use Rattle.std.proofs.lemmas.Bool.{ltb-true, ltb-false, cond_both, eqb-true, eqb-false, eq-eqb}
use Rattle.std.proofs.lemmas.Bool.{both_ways, and_parts, cases_lt}
use Rattle.std.proofs.lemmas.List.{length-take, length-drop, get_or-drop, take_more}
use Rattle.std.proofs.lemmas.List.Folds.{Any-from_list_any, list_any_at}
use Rattle.std.proofs.lemmas.List.Elements.{All-drop}
use Rattle.std.proofs.Math.Seq.{take-add}
use Rattle.wl_wire.specs.declared.kind.Kind.{Kind}
use Rattle.wl_wire.specs.declared.kind.Kind.TheVariants as kinds
use Rattle.wl_wire.specs.declared.kind.ArgFault.{ArgFault}
use Rattle.wl_wire.specs.declared.kind.ArgFault.TheVariants.{Short, NullNotAllowed, NoEndingNul, InnerNul}
use Rattle.wl_wire.specs.Word.{word}
use Rattle.wl_wire.specs.Argument.{Argument, Str, Obj, NewNamed, Array}
use Rattle.wl_wire.specs.Spelling.{Spells, SpellsText, Padded, padded, is_int, is_uint, is_fixed}
use Rattle.wl_wire.specs.Spelling.{is_null, is_text, is_object, is_new, is_named, is_array}
use Rattle.wl_wire.specs.Spelling.{is_descriptor, is_new_by_server}
use Rattle.wl_wire.specs.Faults.{BeginsWithWord, HoldsCounted, LacksCounted, LacksEndingNul, HasInnerNul, IsFirstFault}
use Rattle.wl_wire.specs.Faults.{IsShort}
use Rattle.wl_wire.specs.Reading.{number_at, asked, counted_bytes, text_of, map_found, argument_of, reading}
use Rattle.wl_wire.proofs.Numbers.{Bytewise, number_at_fits, word-number_at, number-from_word}
use Rattle.wl_wire.proofs.Numbers.{signed_fits, int_word-signed}

-- what is true of a reader's result
abbrev pub IsAnswer : Kind → List ℕ → Result (Argument × ℕ) ArgFault → Type 0
IsAnswer kind bytes r = MatchResult r (λ x. (x.1 ≤ length bytes) × Spells kind x.0 (take x.1 bytes))
    (IsFirstFault kind bytes)

-- the same, if all bytes of the argument are there
abbrev pub IsAnswerThere : Kind → List ℕ → Result Argument ArgFault → Type 0
IsAnswerThere kind bytes r = MatchResult r (λ v. Spells kind v (take (asked kind bytes) bytes))
    (IsFirstFault kind bytes)

padded_front : (n : ℕ) (xs : List ℕ) → padded n ≤ length xs → Padded (take n xs) (take (padded n) xs)
padded_front n xs h =
    let split : n + (padded n - n) ≡ padded n = omega arith in
    let short : length (take n xs) ≡ n = omega (arith, length-take n xs) in
    record {
      padding = take (padded n - n) (drop n xs);
      whole = subst (λ (k : ℕ). take k xs ≡ take n xs ++ take (padded n - n) (drop n xs)) split
          (take-add n (padded n - n) xs);
      len = subst (λ (k : ℕ). length (take (padded n) xs) ≡ padded k) (sym short)
          (omega (arith, length-take (padded n) xs));
    }

array_front : (n : ℕ) (bytes : List ℕ) → n < 2 ^ 32 → take 4 bytes ≡ word n → 4 + padded n ≤ length bytes
    → Spells kinds.Array (Array (counted_bytes n bytes)) (take (4 + padded n) bytes)
array_front n bytes f w h =
    let short : length (take n (drop 4 bytes)) ≡ n = omega (arith, length-take n (drop 4 bytes), length-drop 4 bytes) in
    is_array (omega arith) (padded_front n (drop 4 bytes) (omega (arith, length-drop 4 bytes)))
    (rw (take-add 4 (padded n) bytes, w, short) refl)

text_spelled : (m : ℕ) (bytes : List ℕ) → m + 1 < 2 ^ 32 → take 4 bytes ≡ word (m + 1)
    → 4 + padded (m + 1) ≤ length bytes → get_or bytes (4 + m) 0 ≡ 0 → All (λ b. b ≢ 0) (counted_bytes m bytes)
    → SpellsText (counted_bytes m bytes) (take (4 + padded (m + 1)) bytes)
text_spelled m bytes f w h z a =
    let long : m < length (drop 4 bytes) = omega (arith, length-drop 4 bytes) in
    let short : length (take m (drop 4 bytes)) ≡ m = omega (arith, length-take m (drop 4 bytes)) in
    let last : get_or (drop 4 bytes) m 0 ≡ 0 = get_or-drop 4 bytes m 0 ∙ z in
    let whole : take (m + 1) (drop 4 bytes) ≡ take m (drop 4 bytes) ++ 0 ∷ [] =
    take_more (drop 4 bytes) m 0 long ∙ ap (λ (x : ℕ). take m (drop 4 bytes) ++ x ∷ []) last in
    record {
      text_fits = record { no_nul = a; len = omega arith };
      rest = take (padded (m + 1)) (drop 4 bytes);
      padded_rest = subst (λ (t : List ℕ). Padded t (take (padded (m + 1)) (drop 4 bytes))) whole
          (padded_front (m + 1) (drop 4 bytes) (omega (arith, length-drop 4 bytes)));
      whole = rw (take-add 4 (padded (m + 1)) bytes, w, short) refl;
    }

-- the faults of a string that `more` further bytes must follow
abbrev IsTextFault : ℕ → List ℕ → ArgFault → Type 0
IsTextFault more bytes Short = ⊥
IsTextFault more bytes NullNotAllowed = HoldsCounted more 0 bytes
IsTextFault more bytes NoEndingNul = LacksEndingNul more bytes
IsTextFault more bytes InnerNul = HasInnerNul more bytes

pub no_zero : (xs : List ℕ) → list_any (λ b. b == 0) xs ≡ false → All (λ b. b ≢ 0) xs
no_zero xs e k d h z = both_ways _ e (list_any_at (λ (b : ℕ). b == 0) xs k d h (eq-eqb _ 0 z))

zero_in : (xs : List ℕ) → list_any (λ b. b == 0) xs ≡ true → Contains xs 0
zero_in xs e = let a = Any-from_list_any (λ (b : ℕ). b == 0) xs e
    in (a.0, a.2, subst (λ (y : ℕ). get_or xs a.0 y ≡ y) (eqb-true a.1 0 a.4) a.3)

-- the string after a length; its bytes, its padding and `more` further bytes are there
text_answered : (more : ℕ) (bytes : List ℕ) → Bytewise bytes → 4 + padded (number_at bytes) + more ≤ length bytes
    → MatchResult (text_of (number_at bytes) bytes)
    (λ text. SpellsText text (take (4 + padded (number_at bytes)) bytes)) (IsTextFault more bytes)
text_answered more bytes w h =
    let n : ℕ = number_at bytes in
    let Want : Result (List ℕ) ArgFault → Type 0 =
    λ r. MatchResult r (λ text. SpellsText text (take (4 + padded n) bytes)) (IsTextFault more bytes) in
    let begins : BeginsWithWord n bytes = (number_at_fits bytes, word-number_at bytes (omega arith) w) in
    let holds : HoldsCounted more n bytes = (begins, h) in
    cond_both (n == 0) (Err NullNotAllowed) _ Want
    (λ z. subst (λ (k : ℕ). HoldsCounted more k bytes) (eqb-true n 0 z) holds)
    (λ z.
    let above : 0 < n = let ne = eqb-false n 0 z in omega arith in
    cond_both (slice_index bytes (n + 3) == 0) _ (Err NoEndingNul) Want
    (λ e.
    let ending : slice_index bytes (n + 3) ≡ 0 = eqb-true _ 0 e in
    cond_both (list_any (λ b. b == 0) (counted_bytes (n - 1) bytes)) (Err InnerNul) (Ok (counted_bytes (n - 1) bytes))
    Want
    (λ t. (n, above, holds, ending, zero_in (counted_bytes (n - 1) bytes) t))
    (λ f.
    let more_is : n - 1 + 1 ≡ n = omega arith in
    let place : 4 + (n - 1) ≡ n + 3 = omega arith in
    let s = text_spelled (n - 1) bytes (omega (arith, number_at_fits bytes)) (begins.1 ∙ ap word (sym more_is))
    (omega arith) (ap (λ (i : ℕ). get_or bytes i 0) place ∙ ending) (no_zero (counted_bytes (n - 1) bytes) f) in
    subst (λ (k : ℕ). SpellsText (counted_bytes (n - 1) bytes) (take (4 + padded k) bytes)) more_is s))
    (λ e. (n, above, holds, eqb-false _ 0 e)))

string_case : (null : Bool) (bytes : List ℕ) → (number_at bytes ≡ 0 → null ≡ false) → (r : Result (List ℕ) ArgFault)
    → MatchResult r (λ text. SpellsText text (take (4 + padded (number_at bytes)) bytes)) (IsTextFault 0 bytes)
    → IsAnswerThere (kinds.Str null) bytes (map_found (λ text. Str (Some text)) r)
string_case null bytes f (Ok text) s = is_text s
string_case null bytes f (Err Short) s = absurd s
string_case null bytes f (Err NullNotAllowed) s = (f (number-from_word 0 bytes s.0.0 s.0.1), s.0)
string_case null bytes f (Err NoEndingNul) s = s
string_case null bytes f (Err InnerNul) s = s

-- a new object without an interface: its name, and the two words after it
named_case : (bytes : List ℕ) → Bytewise bytes → 12 + padded (number_at bytes) ≤ length bytes
    → (r : Result (List ℕ) ArgFault) → MatchResult r
    (λ text. SpellsText text (take (4 + padded (number_at bytes)) bytes)) (IsTextFault 8 bytes)
    → IsAnswerThere (kinds.New None) bytes (map_found
    (λ name. NewNamed name (number_at (drop (4 + padded (number_at bytes)) bytes))
    (number_at (drop 4 (drop (4 + padded (number_at bytes)) bytes)))) r)
named_case bytes w h (Ok name) s =
    let at : ℕ = 4 + padded (number_at bytes) in
    let after : List ℕ = drop at bytes in
    let len : length after ≡ length bytes - at = length-drop at bytes in
    let wide : Bytewise after = All-drop (λ (b : ℕ). b < 256) at bytes w in
    let version : take 4 after ≡ word (number_at after) = word-number_at after (omega arith) wide in
    let id : take 4 (drop 4 after) ≡ word (number_at (drop 4 after)) =
    word-number_at (drop 4 after) (omega (arith, length-drop 4 after))
    (All-drop (λ (b : ℕ). b < 256) 4 after wide) in
    let words : take 8 after ≡ word (number_at after) ++ word (number_at (drop 4 after)) =
    take-add 4 4 after ∙ ap (λ (l : List ℕ). l ++ take 4 (drop 4 after)) version
    ∙ ap (λ (l : List ℕ). word (number_at after) ++ l) id in
    let split : at + 8 ≡ 12 + padded (number_at bytes) = omega arith in
    let whole : take (at + 8) bytes ≡ (take at bytes ++ word (number_at after)) ++ word (number_at (drop 4 after)) =
    take-add at 8 bytes ∙ ap (λ (l : List ℕ). take at bytes ++ l) words
    ∙ sym (append_assoc (take at bytes) (word (number_at after)) (word (number_at (drop 4 after)))) in
    is_named s (number_at_fits after) (number_at_fits (drop 4 after))
    (subst (λ (k : ℕ). take k bytes ≡ (take at bytes ++ word (number_at after)) ++ word (number_at (drop 4 after)))
    split whole)
named_case bytes w h (Err Short) s = absurd s
named_case bytes w h (Err NullNotAllowed) s = s
named_case bytes w h (Err NoEndingNul) s = s
named_case bytes w h (Err InnerNul) s = s

-- an argument whose bytes are all there
there_answered : (kind : Kind) (bytes : List ℕ) → Bytewise bytes → asked kind bytes ≤ length bytes
    → IsAnswerThere kind bytes (argument_of kind bytes)
there_answered kinds.Int bytes w h = is_int (signed_fits (number_at bytes) (number_at_fits bytes))
    (int_word-signed bytes h w)
there_answered kinds.Uint bytes w h = is_uint (number_at_fits bytes) (word-number_at bytes h w)
there_answered kinds.Fixed bytes w h = is_fixed (signed_fits (number_at bytes) (number_at_fits bytes))
    (int_word-signed bytes h w)
there_answered (kinds.Str null) bytes w h =
    let n : ℕ = number_at bytes in
    cond_both ((n == 0) && null) (Ok (Str None)) (map_found (λ text. Str (Some text)) (text_of n bytes))
    (IsAnswerThere (kinds.Str null) bytes)
    (λ e.
    let p = and_parts (n == 0) null e in
    let z : n ≡ 0 = eqb-true n 0 p.0 in
    is_null p.1 (ap (λ (k : ℕ). take (4 + padded k) bytes) z ∙ word-number_at bytes (omega arith) w ∙ ap word z))
    (λ e. string_case null bytes (λ z. sym (ap (λ (b : Bool). b && null) (eq-eqb n 0 z)) ∙ e) (text_of n bytes)
    (text_answered 0 bytes w (omega arith)))
there_answered (kinds.Obj null iface) bytes w h =
    let n : ℕ = number_at bytes in
    let begins : take 4 bytes ≡ word n = word-number_at bytes h w in
    cond_both (n == 0) _ (Ok (Obj n)) (IsAnswerThere (kinds.Obj null iface) bytes)
    (λ e.
    let z : n ≡ 0 = eqb-true n 0 e in
    cond_both null (Ok (Obj 0)) (Err NullNotAllowed) (IsAnswerThere (kinds.Obj null iface) bytes)
    (λ t. is_object (omega arith) (λ _. t) (begins ∙ ap word z))
    (λ f. (f, (omega arith, begins ∙ ap word z))))
    (λ e. is_object (number_at_fits bytes) (λ z. absurd (eqb-false n 0 e z)) begins)
there_answered (kinds.New (Some iface)) bytes w h = is_new (number_at_fits bytes) (word-number_at bytes h w)
there_answered (kinds.New None) bytes w h = named_case bytes w h (text_of (number_at bytes) bytes)
    (text_answered 8 bytes w (omega arith))
there_answered (kinds.NewByServer iface) bytes w h = is_new_by_server (number_at_fits bytes)
    (word-number_at bytes h w)
there_answered kinds.Array bytes w h = array_front (number_at bytes) bytes (number_at_fits bytes)
    (word-number_at bytes (omega arith) w) h
there_answered kinds.Fd bytes w h = is_descriptor refl

-- an argument whose bytes are not all there
lacks_counted : (more : ℕ) (bytes : List ℕ) → Bytewise bytes → length bytes < 4 + padded (number_at bytes) + more
    → LacksCounted more bytes
lacks_counted more bytes w h =
    elim (cases_lt (length bytes) 4) [
      | inl s ↦ inl s
      | inr s ↦ inr (number_at bytes, ((number_at_fits bytes, word-number_at bytes s w), h))
    ]

short_answered : (kind : Kind) (bytes : List ℕ) → Bytewise bytes → length bytes < asked kind bytes → IsShort kind bytes
short_answered kinds.Int bytes w h = h
short_answered kinds.Uint bytes w h = h
short_answered kinds.Fixed bytes w h = h
short_answered (kinds.Str null) bytes w h = lacks_counted 0 bytes w (omega arith)
short_answered (kinds.Obj null iface) bytes w h = h
short_answered (kinds.New (Some iface)) bytes w h = h
short_answered (kinds.New None) bytes w h = lacks_counted 8 bytes w (omega arith)
short_answered (kinds.NewByServer iface) bytes w h = h
short_answered kinds.Array bytes w h = lacks_counted 0 bytes w (omega arith)
short_answered kinds.Fd bytes w h = absurd (omega arith)

with_length : (kind : Kind) (bytes : List ℕ) → asked kind bytes ≤ length bytes → (r : Result Argument ArgFault)
    → IsAnswerThere kind bytes r → IsAnswer kind bytes (map_found (λ value. (value, asked kind bytes)) r)
with_length kind bytes h (Ok value) s = (h, s)
with_length kind bytes h (Err fault) s = s

-- The value that a reader finds is spelled by the bytes, and the fault that it reports is the first
-- one.
pub reading-answers : (kind : Kind) (bytes : List ℕ) → Bytewise bytes → IsAnswer kind bytes (reading kind bytes)
reading-answers kind bytes w =
    cond_both (nat_lt (length bytes) (asked kind bytes)) (Err Short)
    (map_found (λ value. (value, asked kind bytes)) (argument_of kind bytes)) (IsAnswer kind bytes)
    (λ e. short_answered kind bytes w (ltb-true (length bytes) (asked kind bytes) e))
    (λ e. let h = ltb-false (length bytes) (asked kind bytes) e
    in with_length kind bytes h (argument_of kind bytes) (there_answered kind bytes w h))
