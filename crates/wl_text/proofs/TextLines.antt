-- The lines of a text declare exactly what is read from them.
use Rattle.std.proofs.Common.{◌≡◌, ◌≢◌, ℕ, ◌<◌, ◌==◌, Bool, true, false, cond, List, [], ◌∷◌, ◌++◌}
use Rattle.std.proofs.Common.{length, refl, sym, ap, subst, ◌∙◌, Some, None, Option, append-nil}
use Rattle.std.proofs.Common.{arith}
use Rattle.std.specs.Prelude.{codes, bytes_eq, option_map, option_and_then, not}
use Rattle.std.specs.List.{All, list_all, onto_first}
use Rattle.std.specs.Str.Parse.{AllDigits}
use Rattle.std.specs.Char.{digit_value}
use Rattle.std.proofs.lemmas.Bool.{ne_eqb, eqb-true}
use Rattle.std.proofs.lemmas.List.Elements.{All-nil, All-cons, All-append}
use Rattle.std.proofs.lemmas.List.Sums.{AllPass-from_list_all}
use Rattle.std.proofs.lemmas.List.Splits.{slice_split_at, slice_split_none}
use Rattle.std.proofs.lemmas.Slice.Eq.{bytes_eq-Decides}
use Rattle.wl_text.specs.Lines.{IsSkipped, is_empty, is_comment, says_nothing, words}
use Rattle.wl_text.specs.Number.{number_of}
use Rattle.wl_text.specs.Text.{WrittenKind, WrittenMessage, WrittenInterface, Tail}
use Rattle.wl_text.specs.Text.{is_text_name, written_kind_of, at_number, since_of, ending_of}
use Rattle.wl_text.specs.Text.{with_kinds, tail_from, tail_of, written_message_of, interface_of}
use Rattle.wl_text.specs.Text.{message_added, words_added, line_added}
use Rattle.wl_text.specs.TableText.{SpellsNumber, SpellsArgument, alone, named, tail_with}
use Rattle.wl_text.specs.TableText.{SpellsTail, ends, destroys, since, destroys_since}
use Rattle.wl_text.specs.TableText.{argument, tail_in, side_word, IsMessageLine}
use Rattle.wl_text.specs.TableText.{heading, IsInterfaceLine}
use Rattle.wl_text.proofs.Words.{words_some}
use Rattle.wl_text.proofs.Spelling.{name_is, is_name, number_spells, spelled_number}
use Rattle.wl_text.proofs.Spelling.{letters_no_space, argument_spells, spelled_argument}
use Rattle.wl_text.proofs.Spelling.{at_sign}

abbrev NoSpace : List ℕ → Type 0
NoSpace text = All (λ byte. byte ≢ 32) text

-- words, each after a space
abbrev pub spaced : List (List ℕ) → List ℕ
spaced [] = []
spaced (word ∷ more) = 32 ∷ (word ++ spaced more)

abbrev pub AreWords : List (List ℕ) → Type 0
AreWords [] = Unit {0}
AreWords (word ∷ more) = NoSpace word × AreWords more

no_space : (word : List ℕ) → NoSpace word → All (λ b. (b == 32) ≡ false) word
no_space word clean = λ k d lt. ne_eqb _ _ (clean k d lt)

-- the words of a line that consists of words with spaces between them
pub words_joined : (word : List ℕ) (more : List (List ℕ)) → NoSpace word → AreWords more
    → words (word ++ spaced more) ≡ word ∷ more
words_joined word [] clean rest = ap words (append-nil word)
    ∙ slice_split_none (λ b. b == 32) word (no_space word clean)
words_joined word (next ∷ more) clean rest =
    slice_split_at (λ b. b == 32) word 32 (next ++ spaced more) (no_space word clean) refl
    ∙ ap (λ (ws : List (List ℕ)). word ∷ ws) (words_joined next more rest.0 rest.1)

-- a line consists of its words, with spaces between them
pub joined_words : (line word : List ℕ) (more : List (List ℕ)) → words line ≡ word ∷ more → line ≡ word ++ spaced more
joined_words [] word more is =
    let first : [] ≡ word = cc is in
    let none : [] ≡ more = cc is in
    rw (← first, ← none) refl
joined_words (b ∷ line) word more is = let w = words_some line
    in by w.0 w.1 (b == 32) w.2 (joined_words line w.0 w.1 w.2) refl is
  where
    by : (first : List ℕ) (others : List (List ℕ)) (t : Bool) → words line ≡ first ∷ others
        → line ≡ first ++ spaced others
        → (b == 32) ≡ t → cond t ([] ∷ words line) (onto_first b (words line)) ≡ word ∷ more
        → b ∷ line ≡ word ++ spaced more
    by first others true cut rest space e =
        let none : [] ≡ word = cc e in
        let left : words line ≡ more = cc e in
        let all : first ∷ others ≡ more = sym cut ∙ left in
        let is_space : b ≡ 32 = eqb-true _ _ space in
        ap (λ (l : List ℕ). b ∷ l) rest ∙ (rw (← none, ← all, is_space) refl)
    by first others false cut rest other e =
        let at : (b ∷ first) ∷ others ≡ word ∷ more = rw cut at e in
        let front : b ∷ first ≡ word = cc at in
        let left : others ≡ more = cc at in
        ap (λ (l : List ℕ). b ∷ l) rest ∙ (rw (← front, ← left) refl)

-- words contain no spaces
digits_no_space : (digits : List ℕ) → AllDigits 10 digits → NoSpace digits
digits_no_space [] all = All-nil (λ byte. byte ≢ 32)
digits_no_space (c ∷ cs) all =
    All-cons (λ byte. byte ≢ 32) c cs (λ e. let no : digit_value 32 < 10 = subst (λ (b : ℕ). digit_value b < 10) e all.0
    in absurd (omega (arith, no))) (digits_no_space cs all.1)

argument_no_space : (word : List ℕ) (found : WrittenKind) → SpellsArgument word found → NoSpace word
argument_no_space word found spelled = elim spelled [
  | alone kind free none ↦ letters_no_space _ _ kind
  | named letters name kind takes good is whole ↦ rw whole
      (All-append (λ byte. byte ≢ 32) letters (40 ∷ (name ++ 41 ∷ [])) (letters_no_space _ _ kind)
      (All-cons (λ byte. byte ≢ 32) 40 (name ++ 41 ∷ []) (λ e. cc e)
      (All-append (λ byte. byte ≢ 32) name (41 ∷ []) good.no_space
      (All-cons (λ byte. byte ≢ 32) 41 [] (λ e. cc e) (All-nil (λ byte. byte ≢ 32))))))
]

-- since numbers
record AtNumber (word : List ℕ) (number : ℕ) : Type 0 where
  digits : List ℕ
  whole : word ≡ 64 ∷ digits
  spelled : SpellsNumber digits number

not_empty : (b : ℕ) (more : List ℕ) → (length (b ∷ more) == 0) ≡ false
not_empty b more = ne_eqb _ _ (λ e. omega (arith, e))

at_number_from : (b : ℕ) (digits : List ℕ) → at_number (b ∷ digits) ≡ cond (b == 64) (number_of digits) None
at_number_from b digits = rw (not_empty b digits) refl

at_number_is : (word : List ℕ) (number : ℕ) → at_number word ≡ Some number → AtNumber word number
at_number_is [] number is = cc is
at_number_is (b ∷ digits) number is = by (b == 64) refl (sym (at_number_from b digits) ∙ is)
  where
    by : (t : Bool) → (b == 64) ≡ t → cond t (number_of digits) None ≡ Some number → AtNumber (b ∷ digits) number
    by true sign e = record {
      digits = digits;
      whole = ap (λ (x : ℕ). x ∷ digits) (eqb-true _ _ sign);
      spelled = number_spells digits number e;
    }
    by false other e = cc e

at_number_spelled : (digits : List ℕ) (number : ℕ) → SpellsNumber digits number → at_number (64 ∷ digits) ≡ Some number
at_number_spelled digits number spelled = at_number_from 64 digits ∙ spelled_number digits number spelled

-- tails
since_from : (word digits : List ℕ) (number : ℕ) → word ≡ 64 ∷ digits → SpellsNumber digits number
    → SpellsTail (spaced (word ∷ [])) (tail_with false number)
since_from word digits number whole spelled =
    let same : codes " @" ++ digits ≡ spaced (word ∷ []) = rw (whole, append-nil) refl in
    subst (λ (bytes : List ℕ). SpellsTail bytes (tail_with false number)) same (since spelled)

since_spells : (word : List ℕ) (number : ℕ) → at_number word ≡ Some number
    → SpellsTail (spaced (word ∷ [])) (tail_with false number)
since_spells word number is = let version = at_number_is word number is
    in since_from word version.digits number version.whole version.spelled

destroys_since_from : (word digits : List ℕ) (number : ℕ) → word ≡ 64 ∷ digits → SpellsNumber digits number
    → SpellsTail (spaced (codes "D" ∷ word ∷ [])) (tail_with true number)
destroys_since_from word digits number whole spelled =
    let same : codes " D @" ++ digits ≡ spaced (codes "D" ∷ word ∷ []) = rw (whole, append-nil) refl in
    subst (λ (bytes : List ℕ). SpellsTail bytes (tail_with true number)) same (destroys_since spelled)

destroys_since_spells : (word : List ℕ) (number : ℕ) → at_number word ≡ Some number
    → SpellsTail (spaced (codes "D" ∷ word ∷ [])) (tail_with true number)
destroys_since_spells word number is = let version = at_number_is word number is
    in destroys_since_from word version.digits number version.whole version.spelled

with_destroys : (more : List (List ℕ)) (tail : Tail) → option_map (tail_with true) (since_of more) ≡ Some tail
    → SpellsTail (spaced (codes "D" ∷ more)) tail
with_destroys [] tail is = let same : tail_with true 1 ≡ tail = cc is in rw (← same) destroys
with_destroys (word ∷ []) tail is = by (at_number word) refl is
  where
    by : (o : Option ℕ) → at_number word ≡ o → option_map (tail_with true) o ≡ Some tail
        → SpellsTail (spaced (codes "D" ∷ word ∷ [])) tail
    by None at e = cc e
    by (Some number) at e = let same : tail_with true number ≡ tail = cc e
        in rw (← same) (destroys_since_spells word number at)
with_destroys (word ∷ next ∷ more) tail is = cc is

without_destroys : (word : List ℕ) (more : List (List ℕ)) (tail : Tail)
    → option_map (tail_with false) (since_of (word ∷ more)) ≡ Some tail → SpellsTail (spaced (word ∷ more)) tail
without_destroys word [] tail is = by (at_number word) refl is
  where
    by : (o : Option ℕ) → at_number word ≡ o → option_map (tail_with false) o ≡ Some tail
        → SpellsTail (spaced (word ∷ [])) tail
    by None at e = cc e
    by (Some number) at e = let same : tail_with false number ≡ tail = cc e in rw (← same) (since_spells word number at)
without_destroys word (next ∷ more) tail is = cc is

ending_spells : (word : List ℕ) (more : List (List ℕ)) (tail : Tail) → ending_of word more ≡ Some tail
    → SpellsTail (spaced (word ∷ more)) tail
ending_spells word more tail is = by (bytes_eq word (codes "D")) refl is
  where
    by : (t : Bool) → bytes_eq word (codes "D") ≡ t
        → cond t (option_map (tail_with true) (since_of more)) (option_map (tail_with false) (since_of (word ∷ more)))
        ≡ Some tail
        → SpellsTail (spaced (word ∷ more)) tail
    by true same e = rw ((bytes_eq-Decides word (codes "D")).0 same) (with_destroys more tail e)
    by false other e = without_destroys word more tail e

argument_first : (word : List ℕ) (more : List (List ℕ)) (tail : Tail) (kind : WrittenKind)
    → written_kind_of word ≡ Some kind
    → (o : Option Tail) → ((found : Tail) → o ≡ Some found → SpellsTail (spaced more) found)
    → option_map (with_kinds (kind ∷ [])) o ≡ Some tail → SpellsTail (spaced (word ∷ more)) tail
argument_first word more tail kind here None rest e = cc e
argument_first word more tail kind here (Some found) rest e =
    let same : with_kinds (kind ∷ []) found ≡ tail = cc e in
    rw (← same) (argument (argument_spells word kind here) (rest found refl))

tail_first : (word : List ℕ) (more : List (List ℕ)) (tail : Tail) → (o : Option WrittenKind) → written_kind_of word ≡ o
    → ((found : Tail) → tail_of more ≡ Some found → SpellsTail (spaced more) found)
    → tail_from o (tail_of more) (ending_of word more) ≡ Some tail → SpellsTail (spaced (word ∷ more)) tail
tail_first word more tail None here rest e = ending_spells word more tail e
tail_first word more tail (Some kind) here rest e = argument_first word more tail kind here (tail_of more) rest e

pub tail_spells : (more : List (List ℕ)) (tail : Tail) → tail_of more ≡ Some tail → SpellsTail (spaced more) tail
tail_spells [] tail is = let same : tail_with false 1 ≡ tail = cc is in rw (← same) ends
tail_spells (word ∷ more) tail is = tail_first word more tail (written_kind_of word) refl
    (λ found e. tail_spells more found e) is

-- the words of a tail
pub record TailWords (bytes : List ℕ) (tail : Tail) : Type 0 where
  pub more : List (List ℕ)
  pub whole : bytes ≡ spaced more
  pub clean : AreWords more
  pub read : tail_of more ≡ Some tail

at_word : (digits : List ℕ) → AllDigits 10 digits → NoSpace (64 ∷ digits)
at_word digits all = All-cons (λ byte. byte ≢ 32) 64 digits (λ e. cc e) (digits_no_space digits all)

d_word : NoSpace (codes "D")
d_word = All-cons (λ byte. byte ≢ 32) 68 [] (λ e. cc e) (All-nil (λ byte. byte ≢ 32))

-- the word that gives a since number spells no argument
since_read : (word digits : List ℕ) (number : ℕ) → word ≡ 64 ∷ digits → SpellsNumber digits number
    → tail_of (word ∷ []) ≡ Some (tail_with false number)
since_read word digits number whole spelled =
    let ending : ending_of word [] ≡ Some (tail_with false number) =
    subst (λ (w : List ℕ). ending_of w [] ≡ Some (tail_with false number)) (sym whole)
    (ap (option_map (tail_with false)) (at_number_spelled digits number spelled)) in
    ap (λ (o : Option WrittenKind). tail_from o (tail_of []) (ending_of word [])) (at_sign word digits whole) ∙ ending

destroys_since_read : (digits : List ℕ) (number : ℕ) → SpellsNumber digits number
    → tail_of (codes "D" ∷ (64 ∷ digits) ∷ []) ≡ Some (tail_with true number)
destroys_since_read digits number spelled = ap (option_map (tail_with true)) (at_number_spelled digits number spelled)

argument_read : (word : List ℕ) (more : List (List ℕ)) (kind : WrittenKind) (tail : Tail)
    → written_kind_of word ≡ Some kind
    → tail_of more ≡ Some tail
    → tail_of (word ∷ more) ≡ Some (with_kinds (kind ∷ []) tail)
argument_read word more kind tail here rest =
    ap (λ (o : Option WrittenKind). tail_from o (tail_of more) (ending_of word more)) here
    ∙ ap (option_map (with_kinds (kind ∷ []))) rest

pub spelled_tail : {bytes : List ℕ} {tail : Tail} → SpellsTail bytes tail → TailWords bytes tail
spelled_tail ends = record { more = []; whole = refl; clean = tt; read = refl }
spelled_tail destroys = record { more = codes "D" ∷ []; whole = refl; clean = (d_word, tt); read = refl }
spelled_tail (since {digits} {number} spelled) = record {
  more = (64 ∷ digits) ∷ [];
  whole = rw append-nil refl;
  clean = (at_word digits spelled.digit, tt);
  read = since_read (64 ∷ digits) digits number refl spelled;
}
spelled_tail (destroys_since {digits} {number} spelled) = record {
  more = codes "D" ∷ (64 ∷ digits) ∷ [];
  whole = rw append-nil refl;
  clean = (d_word, (at_word digits spelled.digit, tt));
  read = destroys_since_read digits number spelled;
}
spelled_tail (argument {word} {rest} {kind} {tail} spelled more) =
    let rest = spelled_tail more in
    record {
      more = word ∷ rest.more;
      whole = ap (λ (bytes : List ℕ). 32 ∷ (word ++ bytes)) rest.whole;
      clean = (argument_no_space word kind spelled, rest.clean);
      read = argument_read word rest.more kind tail (spelled_argument word kind spelled) rest.read;
    }

-- messages
abbrev message_with : ℕ → List ℕ → Tail → WrittenMessage
message_with n name tail = record {
  line = n;
  name = name;
  since = tail.since;
  kinds = tail.kinds;
  destroys = tail.destroys;
}

pub message_says : (n : ℕ) (is_request : Bool) (more : List (List ℕ)) (m : WrittenMessage)
    → written_message_of n more ≡ Some m
    → (m.line ≡ n) × IsMessageLine (side_word is_request ++ spaced more) is_request m
message_says n side [] m is = cc is
message_says n side (name ∷ more) m is = by (is_text_name name) (tail_of more) refl refl is
  where
    by : (t : Bool) (o : Option Tail) → is_text_name name ≡ t → tail_of more ≡ o
        → cond t (option_map (message_with n name) o) None ≡ Some m
        → (m.line ≡ n) × IsMessageLine (side_word side ++ spaced (name ∷ more)) side m
    by false o here at e = cc e
    by true None here at e = cc e
    by true (Some tail) here at e =
        let same : message_with n name tail ≡ m = cc e in
        rw (← same) (
          refl,
          record {
            rest = spaced more;
            whole = refl;
            named = name_is name here;
            tail = tail_spells more tail at;
          },
        )

-- a word given as a literal
plain_word : (word : List ℕ) → list_all (λ b. not (b == 32)) word ≡ true → NoSpace word
plain_word word all = λ k d lt e. plain_byte _ (AllPass-from_list_all (λ b. not (b == 32)) word all k d lt) e
  where
    plain_byte : (b : ℕ) → not (b == 32) ≡ true → b ≡ 32 → ⊥
    plain_byte b other same = let no : not (32 == 32) ≡ true = subst (λ (x : ℕ). not (x == 32) ≡ true) same other
        in cc no

side_no_space : (is_request : Bool) → NoSpace (side_word is_request)
side_no_space true = plain_word (codes "request") refl
side_no_space false = plain_word (codes "event") refl

pub record MessageWords (n : ℕ) (line : List ℕ) (is_request : Bool) (m : WrittenMessage) : Type 0 where
  pub more : List (List ℕ)
  pub cut : words line ≡ side_word is_request ∷ more
  pub read : written_message_of n more ≡ Some m

read_message : (n : ℕ) (m : WrittenMessage) (more : List (List ℕ)) → m.line ≡ n → is_text_name m.name ≡ true
    → tail_of more ≡ Some (tail_in m) → written_message_of n (m.name ∷ more) ≡ Some m
read_message n m more line good tail =
    rw good (ap (option_map (message_with n m.name)) tail
    ∙ ap (λ (l : ℕ). Some (message_with l m.name (tail_in m))) (sym line))

spelled_message : (n : ℕ) (line : List ℕ) (is_request : Bool) (m : WrittenMessage) → IsMessageLine line is_request m
    → m.line ≡ n → MessageWords n line is_request m
spelled_message n line side m said at =
    let tail = spelled_tail said.tail in
    let whole : line ≡ side_word side ++ spaced (m.name ∷ tail.more) =
    said.whole ∙ ap (λ (bytes : List ℕ). side_word side ++ 32 ∷ (m.name ++ bytes)) tail.whole in
    record {
      more = m.name ∷ tail.more;
      cut = ap words whole ∙ words_joined (side_word side) (m.name ∷ tail.more) (side_no_space side)
          (said.named.no_space, tail.clean);
      read = read_message n m tail.more at (is_name m.name said.named) tail.read;
    }

-- interfaces
abbrev pub opened : Bool → ℕ → List ℕ → ℕ → WrittenInterface
opened extends n name version = record {
  line = n;
  extends = extends;
  name = name;
  version = version;
  requests = [];
  events = [];
}

record InterfaceSaid (extends : Bool) (n : ℕ) (more : List (List ℕ)) (i : WrittenInterface) : Type 0 where
  name : List ℕ
  version : ℕ
  is : i ≡ opened extends n name version
  said : IsInterfaceLine (heading extends ++ spaced more) extends name version

interface_says : (extends : Bool) (n : ℕ) (more : List (List ℕ)) (i : WrittenInterface)
    → interface_of extends n more ≡ Some i → InterfaceSaid extends n more i
interface_says extends n [] i is = cc is
interface_says extends n (name ∷ []) i is = cc is
interface_says extends n (name ∷ digits ∷ []) i is = by (is_text_name name) (number_of digits) refl refl is
  where
    by : (t : Bool) (o : Option ℕ) → is_text_name name ≡ t → number_of digits ≡ o
        → cond t (option_map (opened extends n name) o) None ≡ Some i
        → InterfaceSaid extends n (name ∷ digits ∷ []) i
    by false o good at e = cc e
    by true None good at e = cc e
    by true (Some version) good at e = record {
      name = name;
      version = version;
      is = let same : opened extends n name version ≡ i = cc e in sym same;
      said = record {
        digits = digits;
        whole = rw append-nil refl;
        named = name_is name good;
        number = number_spells digits version at;
      };
    }
interface_says extends n (name ∷ digits ∷ next ∷ more) i is = cc is

heading_no_space : (extends : Bool) → NoSpace (heading extends)
heading_no_space false = plain_word (codes "interface") refl
heading_no_space true = plain_word (codes "extend") refl

spelled_interface : (extends : Bool) (n : ℕ) (line name : List ℕ) (version : ℕ)
    → IsInterfaceLine line extends name version
    → (more : List (List ℕ)) × (words line ≡ heading extends ∷ more)
    × (interface_of extends n more ≡ Some (opened extends n name version))
spelled_interface extends n line name version said =
    let whole : line ≡ heading extends ++ spaced (name ∷ said.digits ∷ []) =
    said.whole ∙ ap (λ (end : List ℕ). heading extends ++ 32 ∷ (name ++ 32 ∷ end)) (sym (append-nil said.digits)) in
    let number : number_of said.digits ≡ Some version = spelled_number said.digits version said.number in (
      name ∷ said.digits ∷ [],
      ap words whole ∙ words_joined (heading extends) (name ∷ said.digits ∷ []) (heading_no_space extends)
          (said.named.no_space, (digits_no_space said.digits said.number.digit, tt)),
      rw (is_name name said.named) (ap (option_map (opened extends n name)) number),
    )

-- skipped lines
skips_it : (line : List ℕ) → IsSkipped line → says_nothing line ≡ true
skips_it line skipped = elim skipped [
  | is_empty none ↦ rw none refl
  | is_comment comment is ↦ rw is refl
]

skipped_is : (line : List ℕ) → says_nothing line ≡ true → IsSkipped line
skipped_is [] is = is_empty refl
skipped_is (b ∷ more) is = is_comment more (ap (λ (x : ℕ). x ∷ more) (eqb-true _ _ is))

-- how a line changes the interfaces so far
pub skipped_added : (n : ℕ) (line : List ℕ) → IsSkipped line → (written : List WrittenInterface)
    → line_added n line written ≡ Some written
skipped_added n line skipped written = rw (skips_it line skipped) refl

added_by_words : (n : ℕ) (line : List ℕ) (ws : List (List ℕ)) (written : List WrittenInterface)
    → says_nothing line ≡ false → words line ≡ ws → line_added n line written ≡ words_added n ws written
added_by_words n line ws written says cut =
    ap (λ (t : Bool). cond t (Some written) (words_added n (words line) written)) says
    ∙ ap (λ (w : List (List ℕ)). words_added n w written) cut

speaks : (line word rest : List ℕ) → line ≡ word ++ rest → says_nothing (word ++ rest) ≡ false
    → says_nothing line ≡ false
speaks line word rest whole says = rw whole says

message_speaks : (line rest : List ℕ) (side : Bool) → line ≡ side_word side ++ rest → says_nothing line ≡ false
message_speaks line rest true whole = speaks line (codes "request") rest whole refl
message_speaks line rest false whole = speaks line (codes "event") rest whole refl

by_side : (n : ℕ) (side : Bool) (more : List (List ℕ)) (m : WrittenMessage) (written : List WrittenInterface)
    → written_message_of n more ≡ Some m → words_added n (side_word side ∷ more) written ≡ message_added side m written
by_side n true more m written read = ap (option_and_then (λ x. message_added true x written)) read
by_side n false more m written read = ap (option_and_then (λ x. message_added false x written)) read

pub message_line_added : (n : ℕ) (line : List ℕ) (side : Bool) (m : WrittenMessage) → IsMessageLine line side m
    → m.line ≡ n
    → (written : List WrittenInterface) → line_added n line written ≡ message_added side m written
message_line_added n line side m said at written =
    let spelled = spelled_message n line side m said at in
    added_by_words n line (side_word side ∷ spelled.more) written (message_speaks line _ side said.whole) spelled.cut
    ∙ by_side n side spelled.more m written spelled.read

heading_speaks : (line rest : List ℕ) (extends : Bool) → line ≡ heading extends ++ rest → says_nothing line ≡ false
heading_speaks line rest false whole = speaks line (codes "interface") rest whole refl
heading_speaks line rest true whole = speaks line (codes "extend") rest whole refl

by_heading : (n : ℕ) (extends : Bool) (more : List (List ℕ)) (i : WrittenInterface) (written : List WrittenInterface)
    → interface_of extends n more ≡ Some i
    → words_added n (heading extends ∷ more) written ≡ Some (written ++ i ∷ [])
by_heading n false more i written read = ap (option_map (λ i. written ++ i ∷ [])) read
by_heading n true more i written read = ap (option_map (λ i. written ++ i ∷ [])) read

pub interface_line_added : (extends : Bool) (n : ℕ) (line name : List ℕ) (version : ℕ)
    → IsInterfaceLine line extends name version
    → (written : List WrittenInterface)
    → line_added n line written ≡ Some (written ++ opened extends n name version ∷ [])
interface_line_added extends n line name version said written =
    let spelled = spelled_interface extends n line name version said in
    added_by_words n line (heading extends ∷ spelled.0) written (heading_speaks line _ extends said.whole) spelled.1
    ∙ by_heading n extends spelled.0 _ written spelled.2

-- what a line declares
pub data LineSays (n : ℕ) (line : List ℕ) : Type 0 where
  it_skips : IsSkipped line → LineSays n line
  it_opens : (extends : Bool) (name : List ℕ) (version : ℕ) → IsInterfaceLine line extends name version
      → LineSays n line
  it_adds : (side : Bool) (m : WrittenMessage) → m.line ≡ n → IsMessageLine line side m → LineSays n line
  it_fails : ((written : List WrittenInterface) → line_added n line written ≡ None) → LineSays n line

fails_so : (n : ℕ) (line : List ℕ) (ws : List (List ℕ)) → says_nothing line ≡ false → words line ≡ ws
    → ((written : List WrittenInterface) → words_added n ws written ≡ None) → LineSays n line
fails_so n line ws says cut none = it_fails (λ written. added_by_words n line ws written says cut ∙ none written)

heading_fails : (n : ℕ) (extends : Bool) (more : List (List ℕ)) (written : List WrittenInterface)
    → interface_of extends n more ≡ None → words_added n (heading extends ∷ more) written ≡ None
heading_fails n false more written none = ap (option_map (λ i. written ++ i ∷ [])) none
heading_fails n true more written none = ap (option_map (λ i. written ++ i ∷ [])) none

opens_so : (n : ℕ) (line : List ℕ) (extends : Bool) (more : List (List ℕ)) → says_nothing line ≡ false
    → words line ≡ heading extends ∷ more
    → (o : Option WrittenInterface) → interface_of extends n more ≡ o → LineSays n line
opens_so n line extends more says cut None is = fails_so n line (heading extends ∷ more) says cut
    (λ written. heading_fails n extends more written is)
opens_so n line extends more says cut (Some i) is =
    let heard = interface_says extends n more i is in
    it_opens extends heard.name heard.version (subst (λ (l : List ℕ). IsInterfaceLine l extends heard.name heard.version)
    (sym (joined_words line (heading extends) more cut)) heard.said)

side_fails : (n : ℕ) (side : Bool) (more : List (List ℕ)) (written : List WrittenInterface)
    → written_message_of n more ≡ None
    → words_added n (side_word side ∷ more) written ≡ None
side_fails n true more written none = ap (option_and_then (λ x. message_added true x written)) none
side_fails n false more written none = ap (option_and_then (λ x. message_added false x written)) none

adds_so : (n : ℕ) (line : List ℕ) (side : Bool) (more : List (List ℕ)) → says_nothing line ≡ false
    → words line ≡ side_word side ∷ more
    → (o : Option WrittenMessage) → written_message_of n more ≡ o → LineSays n line
adds_so n line side more says cut None is = fails_so n line (side_word side ∷ more) says cut
    (λ written. side_fails n side more written is)
adds_so n line side more says cut (Some m) is =
    let heard = message_says n side more m is in
    it_adds side m heard.0 (subst (λ (l : List ℕ). IsMessageLine l side m)
    (sym (joined_words line (side_word side) more cut)) heard.1)

word_is : (word literal : List ℕ) (more ws : List (List ℕ)) → ws ≡ word ∷ more → bytes_eq word literal ≡ true
    → ws ≡ literal ∷ more
word_is word literal more ws cut same = cut ∙ ap (λ (w : List ℕ). w ∷ more) ((bytes_eq-Decides word literal).0 same)

by_word : (n : ℕ) (line word : List ℕ) (more : List (List ℕ)) → says_nothing line ≡ false → words line ≡ word ∷ more
    → (i x r e : Bool) → bytes_eq word (codes "interface") ≡ i → bytes_eq word (codes "extend") ≡ x
    → bytes_eq word (codes "request") ≡ r → bytes_eq word (codes "event") ≡ e → LineSays n line
by_word n line word more says cut true x r e is_i is_x is_r is_e =
    opens_so n line false more says (word_is word (codes "interface") more _ cut is_i) (interface_of false n more) refl
by_word n line word more says cut false true r e is_i is_x is_r is_e =
    opens_so n line true more says (word_is word (codes "extend") more _ cut is_x) (interface_of true n more) refl
by_word n line word more says cut false false true e is_i is_x is_r is_e =
    adds_so n line true more says (word_is word (codes "request") more _ cut is_r) (written_message_of n more) refl
by_word n line word more says cut false false false true is_i is_x is_r is_e =
    adds_so n line false more says (word_is word (codes "event") more _ cut is_e) (written_message_of n more) refl
by_word n line word more says cut false false false false is_i is_x is_r is_e =
    fails_so n line (word ∷ more) says cut (λ written. rw (is_i, is_x, is_r, is_e) refl)

by_silence : (n : ℕ) (line : List ℕ) (t : Bool) → says_nothing line ≡ t → LineSays n line
by_silence n line true says = it_skips (skipped_is line says)
by_silence n line false says = let w = words_some line in by_word n line w.0 w.1 says w.2 _ _ _ _ refl refl refl refl

pub line_says : (n : ℕ) (line : List ℕ) → LineSays n line
line_says n line = by_silence n line (says_nothing line) refl
