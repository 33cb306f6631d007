-- The words of a line spell exactly what is read from them.
use Rattle.std.proofs.Common.{◌≡◌, ◌≢◌, ℕ, suc, ◌-◌, ◌<◌, ◌≤◌, ◌==◌, Bool, true, false, cond, List}
use Rattle.std.proofs.Common.{[], ◌∷◌, ◌++◌, length, get_or, take, drop, slice_index, refl, sym, ap}
use Rattle.std.proofs.Common.{subst, ◌∙◌, inl, inr, ◌⊎◌, Some, None, Option, append-nil, drop-cons}
use Rattle.std.proofs.Common.{arith}
use Rattle.std.specs.Prelude.{codes, ◌&&◌, not, bytes_eq, nat_le, position, unwrap_or, option_and_then}
use Rattle.std.specs.Char.{is_ascii_digit}
use Rattle.std.specs.List.{All, list_all, position_or_len}
use Rattle.std.proofs.Math.Seq.{get_or-append_seam, take-append_seam, drop-append_seam, take-length, drop-length}
use Rattle.std.proofs.lemmas.Bool.{ne_eqb, eqb-true, and_parts}
use Rattle.std.proofs.lemmas.Bool.Decides.{nat_tests, Decides-ltb}
use Rattle.std.proofs.lemmas.Grind.{common_steps}
use Rattle.std.proofs.lemmas.List.{take-append-drop, get_or_append_left}
use Rattle.std.proofs.lemmas.List.Quantifiers.{position-Some}
use Rattle.std.proofs.lemmas.List.Sums.{position_or_len_is, AllPass-from_list_all, list_all-from_AllPass}
use Rattle.std.proofs.lemmas.Slice.Eq.{bytes_eq-Decides}
use Rattle.wl_text.specs.Number.{number_of}
use Rattle.wl_text.proofs.Numbers.{number_is, are_digits}
use Rattle.wl_text.specs.declared.written.BareKind.{BareKind}
use Rattle.wl_text.specs.declared.written.BareKind.TheVariants as bare
use Rattle.wl_text.specs.Text.{WrittenKind, is_text_byte, is_text_name, kind_of}
use Rattle.wl_text.specs.Text.{needs_interface, takes_interface, bracketed, written_kind_of}
use Rattle.wl_text.specs.TableText.{IsTextName, SpellsNumber, SpellsKind, int, uint, fixed}
use Rattle.wl_text.specs.TableText.{string, null_string, array, descriptor, object}
use Rattle.wl_text.specs.TableText.{null_object, new_id, new_by_server, SpellsArgument}
use Rattle.wl_text.specs.TableText.{alone, named}

-- names
name_bytes : (byte : ℕ) → is_text_byte byte ≡ true → (byte ≢ 32) × (byte ≢ 40) × (byte ≢ 41)
name_bytes byte is = (
  λ e. let no : is_text_byte 32 ≡ true = subst (λ (b : ℕ). is_text_byte b ≡ true) e is in cc no,
  λ e. let no : is_text_byte 40 ≡ true = subst (λ (b : ℕ). is_text_byte b ≡ true) e is in cc no,
  λ e. let no : is_text_byte 41 ≡ true = subst (λ (b : ℕ). is_text_byte b ≡ true) e is in cc no,
)

pub name_is : (name : List ℕ) → is_text_name name ≡ true → IsTextName name
name_is name is =
    let parts = and_parts (not (length name == 0)) (list_all is_text_byte name) is in
    let all = AllPass-from_list_all is_text_byte name parts.1 in
    record {
      some = let some : not (length name == 0) ≡ true = parts.0 in grind (arith, nat_tests);
      no_space = λ k d lt. (name_bytes _ (all k d lt)).0;
      no_open = λ k d lt. (name_bytes _ (all k d lt)).1;
      no_close = λ k d lt. (name_bytes _ (all k d lt)).2;
    }

pub is_name : (name : List ℕ) → IsTextName name → is_text_name name ≡ true
is_name name is =
    let some = is.some in
    let all : list_all is_text_byte name ≡ true = list_all-from_AllPass is_text_byte name (λ k d lt.
    rw (ne_eqb _ _ (is.no_space k d lt), ne_eqb _ _ (is.no_open k d lt), ne_eqb _ _ (is.no_close k d lt)) refl) in
    let here : (length name == 0) ≡ false = grind (arith, nat_tests) in
    rw (here, all) refl

-- numbers
few_digits : (digits : List ℕ) (n : ℕ) → number_of digits ≡ Some n → (length digits ≤ 10) × (n ≤ 4294967295)
few_digits digits n is = elim (list_all is_ascii_digit digits) as
    (λ t. list_all is_ascii_digit digits ≡ t → (length digits ≤ 10) × (n ≤ 4294967295)) [
      | true ↦ λ all. (grind (arith, nat_tests), grind (arith, nat_tests))
      | false ↦ λ other. absurd (grind (arith, nat_tests))
    ] refl

pub number_spells : (digits : List ℕ) (n : ℕ) → number_of digits ≡ Some n → SpellsNumber digits n
number_spells digits n is =
    let value = number_is digits n is in
    let small = few_digits digits n is in
    record { some = value.0; few = small.0; digit = value.1; value = value.2; small = small.1 }

pub spelled_number : (digits : List ℕ) (n : ℕ) → SpellsNumber digits n → number_of digits ≡ Some n
spelled_number digits n spelled =
    let are = are_digits digits spelled.digit in
    let some = spelled.some in
    let few = spelled.few in
    let value = spelled.value in
    let small = spelled.small in
    rw are (grind (arith, nat_tests))

-- kinds
tried : {P : Type 0} (letters word : List ℕ) (k kind : BareKind) (rest : Option BareKind)
    → cond (bytes_eq letters word) (Some k) rest ≡ Some kind
    → (letters ≡ word → kind ≡ k → P) → (rest ≡ Some kind → P) → P
tried {P} letters word k kind rest is same other = by (bytes_eq letters word) refl is
  where
    by : (t : Bool) → bytes_eq letters word ≡ t → cond t (Some k) rest ≡ Some kind → P
    by true equal e = same ((bytes_eq-Decides letters word).0 equal) (cc e)
    by false differ e = other e

pub kind_spells : (letters : List ℕ) (kind : BareKind) → kind_of letters ≡ Some kind → SpellsKind letters kind
kind_spells letters kind is =
    tried letters (codes "i") bare.Int kind _ is int (λ is.
    tried letters (codes "u") bare.Uint kind _ is uint (λ is.
    tried letters (codes "f") bare.Fixed kind _ is fixed (λ is.
    tried letters (codes "s") (bare.Str false) kind _ is string (λ is.
    tried letters (codes "?s") (bare.Str true) kind _ is null_string (λ is.
    tried letters (codes "a") bare.Array kind _ is array (λ is.
    tried letters (codes "h") bare.Fd kind _ is descriptor (λ is.
    tried letters (codes "o") (bare.Obj false) kind _ is object (λ is.
    tried letters (codes "?o") (bare.Obj true) kind _ is null_object (λ is.
    tried letters (codes "n") bare.New kind _ is new_id (λ is.
    tried letters (codes "N") bare.NewByServer kind _ is new_by_server (λ is. cc is)))))))))))

pub spelled_kind : (letters : List ℕ) (kind : BareKind) → SpellsKind letters kind → kind_of letters ≡ Some kind
spelled_kind letters kind spelled = elim spelled [
  | int l k ↦ rw (l, k) refl
  | uint l k ↦ rw (l, k) refl
  | fixed l k ↦ rw (l, k) refl
  | string l k ↦ rw (l, k) refl
  | null_string l k ↦ rw (l, k) refl
  | array l k ↦ rw (l, k) refl
  | descriptor l k ↦ rw (l, k) refl
  | object l k ↦ rw (l, k) refl
  | null_object l k ↦ rw (l, k) refl
  | new_id l k ↦ rw (l, k) refl
  | new_by_server l k ↦ rw (l, k) refl
]

-- a byte that is not space, ( or @
abbrev is_letter : ℕ → Bool
is_letter b = not (b == 32) && not (b == 40) && not (b == 64)

letters_are : (letters : List ℕ) (kind : BareKind) → SpellsKind letters kind → list_all is_letter letters ≡ true
letters_are letters kind spelled = elim spelled [
  | int l k ↦ rw l refl
  | uint l k ↦ rw l refl
  | fixed l k ↦ rw l refl
  | string l k ↦ rw l refl
  | null_string l k ↦ rw l refl
  | array l k ↦ rw l refl
  | descriptor l k ↦ rw l refl
  | object l k ↦ rw l refl
  | null_object l k ↦ rw l refl
  | new_id l k ↦ rw l refl
  | new_by_server l k ↦ rw l refl
]

letter_bytes : (byte : ℕ) → is_letter byte ≡ true → (byte ≢ 32) × (byte ≢ 40)
letter_bytes byte is = (
  λ e. let no : is_letter 32 ≡ true = subst (λ (b : ℕ). is_letter b ≡ true) e is in cc no,
  λ e. let no : is_letter 40 ≡ true = subst (λ (b : ℕ). is_letter b ≡ true) e is in cc no,
)

pub letters_no_space : (letters : List ℕ) (kind : BareKind) → SpellsKind letters kind → All (λ b. b ≢ 32) letters
letters_no_space letters kind spelled = λ k d lt.
    (letter_bytes _ (AllPass-from_list_all is_letter letters (letters_are letters kind spelled) k d lt)).0

letters_no_open : (letters : List ℕ) (kind : BareKind) → SpellsKind letters kind → All (λ b. b ≢ 40) letters
letters_no_open letters kind spelled = λ k d lt. (letter_bytes _
    (AllPass-from_list_all is_letter letters (letters_are letters kind spelled) k d lt)).1

-- the place of the first ( in a word; the word's length if it has none
abbrev opens_at : List ℕ → ℕ
opens_at word = unwrap_or (position (λ b. b == 40) word) (length word)

opens_behind : (front rest : List ℕ) → All (λ b. b ≢ 40) front → opens_at (front ++ 40 ∷ rest) ≡ length front
opens_behind front rest clean =
    let len : length front < length (front ++ 40 ∷ rest) = grind (arith, common_steps) in
    let at : position_or_len (λ b. b == 40) (front ++ 40 ∷ rest) ≡ length front =
    position_or_len_is (λ b. b == 40) (front ++ 40 ∷ rest) (length front) 0 (omega arith)
    (λ k lt. rw (get_or_append_left front (40 ∷ rest) 0 k lt) (ne_eqb _ _ (clean k 0 lt)))
    (λ lt. rw (get_or-append_seam front 40 rest 0) refl) in
    rw (at, (Decides-ltb _ _).1 len) refl

opens_nowhere : (word : List ℕ) → All (λ b. b ≢ 40) word → opens_at word ≡ length word
opens_nowhere word clean =
    let at : position_or_len (λ b. b == 40) word ≡ length word =
    position_or_len_is (λ b. b == 40) word (length word) 0 (omega arith) (λ k lt. ne_eqb _ _ (clean k 0 lt))
    (λ lt. absurd (omega arith)) in
    rw at (grind (arith, nat_tests))

-- the part of a word from its first ( on
behind_letters : (word : List ℕ) → (drop (opens_at word) word ≡ [])
    ⊎ ((rest : List ℕ) × (drop (opens_at word) word ≡ 40 ∷ rest))
behind_letters word = by (position (λ b. b == 40) word) refl
  where
    by : (o : Option ℕ) → position (λ b. b == 40) word ≡ o
        → (drop (unwrap_or o (length word)) word ≡ [])
        ⊎ ((rest : List ℕ) × (drop (unwrap_or o (length word)) word ≡ 40 ∷ rest))
    by None is = inl (drop-length word)
    by (Some i) is =
        let at = position-Some (λ b. b == 40) word i 0 is in
        let lt : i < length word = at.0 in
        let here : get_or word i 0 ≡ 40 = eqb-true _ _ at.1 in
        inr (drop (suc i) word, drop-cons word i 0 lt ∙ ap (λ (b : ℕ). b ∷ drop (suc i) word) here)

-- the argument of a kind, with a name in brackets
abbrev naming : BareKind → List ℕ → WrittenKind
naming kind name = record { kind = kind; iface = Some name }

bracketed_by : (kind : BareKind) (tail name : List ℕ) → takes_interface kind ≡ true → nat_le 1 (length tail) ≡ true
    → slice_index tail (length tail - 1) ≡ 41
    → take (length tail - 1) tail ≡ name → is_text_name name ≡ true
    → bracketed kind (40 ∷ tail) ≡ Some (naming kind name)
bracketed_by kind tail name takes some close inner good = rw (takes, some, close, inner, good) refl

bracketed_name : (kind : BareKind) (name : List ℕ) → takes_interface kind ≡ true → IsTextName name
    → bracketed kind (40 ∷ (name ++ 41 ∷ [])) ≡ Some (naming kind name)
bracketed_name kind name takes good =
    let len : length (name ++ 41 ∷ []) - 1 ≡ length name = grind (arith, common_steps) in
    bracketed_by kind (name ++ 41 ∷ []) name takes (grind (arith, common_steps, nat_tests))
    (rw len (get_or-append_seam name 41 [] 0))
    (rw len (take-append_seam name (41 ∷ []))) (is_name name good)

name_ends : (tail : List ℕ) → 1 ≤ length tail → slice_index tail (length tail - 1) ≡ 41
    → tail ≡ take (length tail - 1) tail ++ 41 ∷ []
name_ends tail some close =
    let lt : length tail - 1 < length tail = omega arith in
    let last : drop (length tail - 1) tail ≡ 41 ∷ [] =
    drop-cons tail (length tail - 1) 0 lt ∙ (rw close (grind (arith, common_steps))) in
    sym (take-append-drop (length tail - 1) tail) ∙ ap (λ (end : List ℕ). take (length tail - 1) tail ++ end) last

record InBrackets (kind : BareKind) (tail : List ℕ) (found : WrittenKind) : Type 0 where
  takes : takes_interface kind ≡ true
  name : List ℕ
  good : IsTextName name
  is : found ≡ naming kind name
  whole : tail ≡ name ++ 41 ∷ []

in_brackets : (kind : BareKind) (b : ℕ) (tail : List ℕ) (found : WrittenKind) → bracketed kind (b ∷ tail) ≡ Some found
    → InBrackets kind tail found
in_brackets kind b tail found is = by _ refl is
  where
    by : (t : Bool) → (takes_interface kind && nat_le 1 (length tail) && (slice_index tail (length tail - 1) == 41)
        && is_text_name (take (length tail - 1) tail)) ≡ t
        → cond t (Some (naming kind (take (length tail - 1) tail))) None ≡ Some found → InBrackets kind tail found
    by false other e = cc e
    by true passes e =
        let takes : takes_interface kind ≡ true = grind (arith, nat_tests) in
        let some : 1 ≤ length tail = grind (arith, nat_tests) in
        let close : slice_index tail (length tail - 1) ≡ 41 = grind (arith, nat_tests) in
        let good : is_text_name (take (length tail - 1) tail) ≡ true = grind (arith, nat_tests) in
        record {
          takes = takes;
          name = take (length tail - 1) tail;
          good = name_is _ good;
          is = cc e;
          whole = name_ends tail some close;
        }

-- letters with nothing after them
alone_kind : (kind : BareKind) (found : WrittenKind) → bracketed kind [] ≡ Some found
    → (needs_interface kind ≡ false) × (found ≡ record { kind = kind; iface = None })
alone_kind kind found is = by (needs_interface kind) refl is
  where
    by : (t : Bool) → needs_interface kind ≡ t → cond t None (Some (record { kind = kind; iface = None })) ≡ Some found
        → (needs_interface kind ≡ false) × (found ≡ record { kind = kind; iface = None })
    by true needs e = cc e
    by false free e = (free, cc e)

-- arguments
put_together : (front back rest name word : List ℕ) → front ++ back ≡ word → back ≡ 40 ∷ rest → rest ≡ name ++ 41 ∷ []
    → word ≡ front ++ 40 ∷ (name ++ 41 ∷ [])
put_together front back rest name word whole opens closes = rw (← whole, opens, closes) refl

pub argument_spells : (word : List ℕ) (found : WrittenKind) → written_kind_of word ≡ Some found
    → SpellsArgument word found
argument_spells word found is = by (kind_of (take (opens_at word) word)) refl is
  where
    whole : take (opens_at word) word ++ drop (opens_at word) word ≡ word
    whole = take-append-drop (opens_at word) word

    by : (o : Option BareKind) → kind_of (take (opens_at word) word) ≡ o
        → option_and_then (λ kind. bracketed kind (drop (opens_at word) word)) o ≡ Some found
        → SpellsArgument word found
    by None other e = cc e
    by (Some kind) letters e = elim (behind_letters word) [
      | inl none ↦
          let plain = alone_kind kind found (rw none at e) in
          let front : take (opens_at word) word ≡ word =
          sym (append-nil (take (opens_at word) word)) ∙ (rw none at whole) in
          let spelled : SpellsKind word kind = rw front at (kind_spells (take (opens_at word) word) kind letters) in
          rw plain.1 (alone spelled plain.0 refl)
      | inr more ↦
          let bracketed = in_brackets kind 40 more.0 found (rw more.1 at e) in
          let split = put_together (take (opens_at word) word) _ more.0 bracketed.name word whole more.1 bracketed.whole in
          rw bracketed.is (named (take (opens_at word) word) bracketed.name
          (kind_spells (take (opens_at word) word) kind letters) bracketed.takes bracketed.good refl split)
    ]

pub spelled_argument : (word : List ℕ) (found : WrittenKind) → SpellsArgument word found
    → written_kind_of word ≡ Some found
spelled_argument word found spelled = elim spelled [
  | alone kind free none ↦ unnamed word found kind free none
  | named letters name kind takes good is whole ↦ rw whole (with_name letters name found kind takes good is)
] where
  unnamed : (word : List ℕ) (found : WrittenKind) → SpellsKind word found.kind
      → needs_interface found.kind ≡ false → found.iface ≡ None → written_kind_of word ≡ Some found
  unnamed word found kind free none = rw (
    opens_nowhere word
        (letters_no_open word _ kind),
    take-length,
    drop-length,
    spelled_kind word _ kind,
    free,
    ← none,
  ) refl

  with_name : (letters name : List ℕ) (found : WrittenKind) → SpellsKind letters found.kind
      → takes_interface found.kind ≡ true → IsTextName name → found.iface ≡ Some name
      → written_kind_of (letters ++ 40 ∷ (name ++ 41 ∷ [])) ≡ Some found
  with_name letters name found kind takes good is =
      rw (
        opens_behind letters (name ++ 41 ∷ []) (letters_no_open letters _ kind),
        take-append_seam,
        drop-append_seam,
        spelled_kind letters _ kind,
      )
      (bracketed_name found.kind name takes good ∙ (rw (← is) refl))

-- a word that begins with @ spells no argument
same_first : (a b : ℕ) (more others : List ℕ) → a ∷ more ≡ b ∷ others → a ≡ b
same_first a b more others same = cc

letter_first : (b : ℕ) (more : List ℕ) → list_all is_letter (b ∷ more) ≡ true → is_letter b ≡ true
letter_first b more all = (and_parts (is_letter b) (list_all is_letter more) all).0

begins_otherwise : (a : ℕ) (rest letters more : List ℕ) → is_letter a ≡ false → a ≢ 40
    → list_all is_letter letters ≡ true → a ∷ rest ≡ letters ++ 40 ∷ more → ⊥
begins_otherwise a rest [] more sign other all same = other (same_first a 40 rest more same)
begins_otherwise a rest (b ∷ letters) more sign other all same =
    let here : a ≡ b = same_first a b rest (letters ++ 40 ∷ more) same in
    let letter : is_letter a ≡ true = subst (λ (x : ℕ). is_letter x ≡ true) (sym here) (letter_first b letters all) in
    cc (sign, letter)

no_argument : (word rest : List ℕ) (found : WrittenKind) → word ≡ 64 ∷ rest → SpellsArgument word found → ⊥
no_argument word rest found begins spelled = elim spelled [
  | alone kind free none ↦ let no : list_all is_letter (64 ∷ rest) ≡ true =
      subst (λ (w : List ℕ). list_all is_letter w ≡ true) begins (letters_are word _ kind) in cc no
  | named letters name kind takes good at whole ↦ begins_otherwise 64 rest letters (name ++ 41 ∷ []) refl
      (λ e. absurd (omega (arith, e))) (letters_are letters _ kind) (sym begins ∙ whole)
]

never_some : {X : Type 0} (o : Option X) → ((x : X) → o ≡ Some x → ⊥) → o ≡ None
never_some None never = refl
never_some (Some x) never = absurd (never x refl)

pub at_sign : (word rest : List ℕ) → word ≡ 64 ∷ rest → written_kind_of word ≡ None
at_sign word rest begins = never_some (written_kind_of word)
    (λ found is. no_argument word rest found begins (argument_spells word found is))
