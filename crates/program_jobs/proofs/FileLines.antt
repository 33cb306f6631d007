-- The lines of the joined text are those of its files, in their order.
use Rattle.std.proofs.Common.{◌≡◌, ◌∙◌, ◌⊎◌, ◌+◌, ◌<◌, ◌≤◌, ℕ, List, [], ◌∷◌, ◌++◌, refl, sym, ap, inl, inr}
use Rattle.std.proofs.Common.{Bool, true, false, append_assoc, arith, length, subst}
use Rattle.std.specs.Prelude.{◌↔◌}
use Rattle.std.specs.List.{flat_map, onto_first}
use Rattle.std.proofs.lemmas.Grind.{flat_map-append}
use Rattle.std.proofs.lemmas.List.{append-nil, length-append}
use Rattle.std.proofs.lemmas.List.Splits.{slice_split-cons_yes, slice_split-cons_no, length-slice_split}
use Rattle.program_jobs.specs.Texts.{NamedText, as_one, is_line_feed, lines_in, own_line}
use Rattle.program_jobs.specs.FileLines.{HasLine, IsLineOfFile, lines_of, lines_of_files}
use Rattle.program_jobs.proofs.Texts.{after_feed, place_after, place_here}

onto_first_more : (x : ℕ) (parts more : List (List ℕ)) → 0 < length parts
    → onto_first x (parts ++ more) ≡ onto_first x parts ++ more
onto_first_more x [] more some = absurd (omega (arith, some))
onto_first_more x (part ∷ parts) more some = refl

-- a text with one more byte in front of the first of two parts
feed_after : (byte : ℕ) (xs ys : List ℕ) (feeds : Bool) → is_line_feed byte ≡ feeds
    → lines_of (xs ++ 10 ∷ ys) ≡ lines_of xs ++ lines_of ys
    → lines_of (byte ∷ (xs ++ 10 ∷ ys)) ≡ lines_of (byte ∷ xs) ++ lines_of ys
feed_after byte xs ys true is parts =
    slice_split-cons_yes is_line_feed byte (xs ++ 10 ∷ ys) is ∙ ap (λ (l : List (List ℕ)). [] ∷ l) parts
    ∙ ap (λ (l : List (List ℕ)). l ++ lines_of ys) (sym (slice_split-cons_yes is_line_feed byte xs is))
feed_after byte xs ys false is parts =
    slice_split-cons_no is_line_feed byte (xs ++ 10 ∷ ys) is ∙ ap (onto_first byte) parts
    ∙ onto_first_more byte (lines_of xs) (lines_of ys) (omega (arith, length-slice_split is_line_feed xs))
    ∙ ap (λ (l : List (List ℕ)). l ++ lines_of ys) (sym (slice_split-cons_no is_line_feed byte xs is))

-- a line feed between two texts parts their lines
feed_parts : (xs ys : List ℕ) → lines_of (xs ++ 10 ∷ ys) ≡ lines_of xs ++ lines_of ys
feed_parts [] ys = refl
feed_parts (byte ∷ xs) ys = feed_after byte xs ys (is_line_feed byte) refl (feed_parts xs ys)

lines_joined : (bytes : List ℕ) (texts : List NamedText)
    → lines_of (bytes ++ flat_map after_feed texts) ≡ lines_of bytes ++ lines_of_files texts
lines_joined bytes [] = ap lines_of (append-nil bytes) ∙ sym (append-nil (lines_of bytes))
lines_joined bytes (next ∷ texts) =
    feed_parts bytes (next.bytes ++ flat_map after_feed texts)
    ∙ ap (λ (l : List (List ℕ)). lines_of bytes ++ l) (lines_joined next.bytes texts)

lines_of_whole : (texts : List NamedText) → 0 < length texts → lines_of (as_one texts) ≡ lines_of_files texts
lines_of_whole [] some = absurd (omega (arith, some))
lines_of_whole (text ∷ texts) some = lines_joined text.bytes texts

-- Where an element of two lists together is: in the first, or in the second.
abbrev InFirst : List (List ℕ) → List (List ℕ) → List ℕ → Type 0
InFirst xs before x = (rest : List (List ℕ)) × (xs ≡ before ++ x ∷ rest)

abbrev InSecond : List (List ℕ) → List (List ℕ) → List (List ℕ) → List (List ℕ) → List ℕ → Type 0
InSecond xs ys before after x = (rest : List (List ℕ)) × (before ≡ xs ++ rest) × (ys ≡ rest ++ x ∷ after)

in_more : (first other : List ℕ) (xs ys before after : List (List ℕ)) (x : List ℕ) → first ≡ other
    → InFirst xs before x ⊎ InSecond xs ys before after x
    → InFirst (first ∷ xs) (other ∷ before) x ⊎ InSecond (first ∷ xs) ys (other ∷ before) after x
in_more first other xs ys before after x same (inl (rest, is)) = inl (rest, cc (same, is))
in_more first other xs ys before after x same (inr (rest, is, then)) = inr (rest, cc (same, is), then)

in_either : (xs ys before after : List (List ℕ)) (x : List ℕ) → xs ++ ys ≡ before ++ x ∷ after
    → InFirst xs before x ⊎ InSecond xs ys before after x
in_either [] ys before after x is = inr (before, refl, is)
in_either (first ∷ xs) ys [] after x is = inl (xs, cc is)
in_either (first ∷ xs) ys (other ∷ before) after x is =
    in_more first other xs ys before after x (cc is) (in_either xs ys before after x (cc is))

-- the number of a line is at most the number of lines
number_within : (text : List ℕ) (number : ℕ) (line : List ℕ) → HasLine text number line → number ≤ lines_in text
number_within text number line has =
    let count = length-slice_split is_line_feed text in
    let long : length (lines_of text) ≡ length has.before + length (line ∷ has.after) =
    ap length has.whole ∙ length-append has.before (line ∷ has.after) in
    let place = has.place in
    omega (arith, count, long, place)

own_here : (text : NamedText) (texts : List NamedText) (number : ℕ) → number ≤ lines_in text.bytes
    → own_line (text ∷ texts) number ≡ (text.name, number)
own_here text texts number within = place_here text texts number (omega (arith, within))

own_later : (text : NamedText) (texts : List NamedText) (number next : ℕ)
    → number ≡ length (lines_of text.bytes) + next → 0 < next
    → own_line (text ∷ texts) number ≡ own_line texts next
own_later text texts number next is some =
    let count = length-slice_split is_line_feed text.bytes in
    place_after text texts number next (omega (arith, count, is, some)) (omega (arith, count, is, some))

-- `own_line` finds a line of the first file
found_here : (text : NamedText) (texts : List NamedText) (number : ℕ) (line : List ℕ) → HasLine text.bytes number line
    → IsLineOfFile (text ∷ texts) number line (own_line (text ∷ texts) number).0 (own_line (text ∷ texts) number).1
found_here text texts number line has =
    subst (λ (own : List ℕ × ℕ). IsLineOfFile (text ∷ texts) number line own.0 own.1)
    (sym (own_here text texts number (number_within text.bytes number line has))) (record {
      before = [];
      file = text;
      after = texts;
      whole = refl;
      named = refl;
      place = omega arith;
      has = has;
    })

-- and one of a later file
found_later : (text : NamedText) (texts : List NamedText) (number next : ℕ) (line : List ℕ)
    → number ≡ length (lines_of text.bytes) + next → 0 < next
    → IsLineOfFile texts next line (own_line texts next).0 (own_line texts next).1
    → IsLineOfFile (text ∷ texts) number line (own_line (text ∷ texts) number).0 (own_line (text ∷ texts) number).1
found_later text texts number next line is some found =
    let more = length-append (lines_of text.bytes) (lines_of_files found.before) in
    let place = found.place in
    subst (λ (own : List ℕ × ℕ). IsLineOfFile (text ∷ texts) number line own.0 own.1)
    (sym (own_later text texts number next is some)) (record {
      before = text ∷ found.before;
      file = found.file;
      after = found.after;
      whole = ap (λ (l : List NamedText). text ∷ l) found.whole;
      named = found.named;
      place = omega (arith, is, more, place);
      has = found.has;
    })

-- a line of all files is one of a file, and `own_line` finds it
abbrev Found : List NamedText → Type 0
Found texts = (number : ℕ) (line : List ℕ) (before after : List (List ℕ))
    → lines_of_files texts ≡ before ++ line ∷ after → number ≡ length before + 1
    → IsLineOfFile texts number line (own_line texts number).0 (own_line texts number).1

found_among : (text : NamedText) (texts : List NamedText) (number : ℕ) (line : List ℕ) (before after : List (List ℕ))
    → Found texts → number ≡ length before + 1
    → InFirst (lines_of text.bytes) before line
    ⊎ InSecond (lines_of text.bytes) (lines_of_files texts) before after line
    → IsLineOfFile (text ∷ texts) number line (own_line (text ∷ texts) number).0 (own_line (text ∷ texts) number).1
found_among text texts number line before after again place (inl (rest, is)) =
    found_here text texts number line (record { before = before; after = rest; whole = is; place = place })
found_among text texts number line before after again place (inr (rest, is, then)) =
    let long : length before ≡ length (lines_of text.bytes) + length rest =
    ap length is ∙ length-append (lines_of text.bytes) rest in
    found_later text texts number (length rest + 1) line (omega (arith, long, place)) (omega arith)
    (again (length rest + 1) line rest after then refl)

found : (texts : List NamedText) → Found texts
found [] number line [] after is place = absurd (cc is)
found [] number line (first ∷ before) after is place = absurd (cc is)
found (text ∷ texts) number line before after is place =
    found_among text texts number line before after (found texts) place
    (in_either (lines_of text.bytes) (lines_of_files texts) before after line is)

-- a line of a file is what `own_line` finds at its place
own_is : (before : List NamedText) (file : NamedText) (after : List NamedText) (own number : ℕ)
    → 0 < own → own ≤ lines_in file.bytes → number ≡ length (lines_of_files before) + own
    → own_line (before ++ file ∷ after) number ≡ (file.name, own)
own_is [] file after own number some within place =
    let is : own ≡ number = omega (arith, place) in
    subst (λ (m : ℕ). own_line (file ∷ after) m ≡ (file.name, own)) is (own_here file after own within)
own_is (text ∷ before) file after own number some within place =
    let next = length (lines_of_files before) + own in
    let more = length-append (lines_of text.bytes) (lines_of_files before) in
    own_later text (before ++ file ∷ after) number next (omega (arith, place, more)) (omega (arith, some))
    ∙ own_is before file after own next some within refl

-- and the joined text has it there
has_whole : (texts : List NamedText) (number own : ℕ) (line name : List ℕ) → IsLineOfFile texts number line name own
    → HasLine (as_one texts) number line
has_whole texts number own line name of =
    let has = of.has in
    let own_place = has.place in
    let place = of.place in
    let after = has.after ++ lines_of_files of.after in
    let all : lines_of_files texts ≡ (lines_of_files of.before ++ has.before) ++ line ∷ after =
    ap lines_of_files of.whole
    ∙ flat_map-append (λ (text : NamedText). lines_of text.bytes) of.before (of.file ∷ of.after)
    ∙ ap (λ (l : List (List ℕ)). lines_of_files of.before ++ (l ++ lines_of_files of.after)) has.whole
    ∙ ap (λ (l : List (List ℕ)). lines_of_files of.before ++ l)
    (append_assoc has.before (line ∷ has.after) (lines_of_files of.after))
    ∙ sym (append_assoc (lines_of_files of.before) has.before (line ∷ after)) in
    let count = ap length of.whole ∙ length-append of.before (of.file ∷ of.after) in
    let long = length-append (lines_of_files of.before) has.before in
    record {
      before = lines_of_files of.before ++ has.before;
      after = after;
      whole = lines_of_whole texts (omega (arith, count)) ∙ all;
      place = omega (arith, long, place, own_place);
    }

own_named : (texts : List NamedText) (number own : ℕ) (line name : List ℕ) → IsLineOfFile texts number line name own
    → own_line texts number ≡ (name, own)
own_named texts number own line name of =
    let own_place = of.has.place in
    ap (λ (l : List NamedText). own_line l number) of.whole
    ∙ own_is of.before of.file of.after own number (omega (arith, own_place))
    (number_within of.file.bytes own line of.has) of.place
    ∙ ap (λ (n : List ℕ). (n, own)) of.named

pub found_in_file : (texts : List NamedText) (number own : ℕ) (line name : List ℕ) → 0 < length texts
    → (HasLine (as_one texts) number line × (own_line texts number ≡ (name, own)))
    ↔ IsLineOfFile texts number line name own
found_in_file texts number own line name some = (
  λ (has, is). subst (λ (at : List ℕ × ℕ). IsLineOfFile texts number line at.0 at.1) is
      (found texts number line has.before has.after (sym (lines_of_whole texts some) ∙ has.whole) has.place),
  λ of. (has_whole texts number own line name of, own_named texts number own line name of),
)
