-- The result of reading a text that is appended to tables.
use Rattle.std.proofs.Common.{◌≡◌, ℕ, List, [], Some, None, Option, refl, sym, ap, subst, ◌∙◌}
use Rattle.std.specs.Prelude.{Result, Ok, Err, ◌↔◌}
use Rattle.std.specs.Str.Lines.{lines}
use Rattle.wl_text.specs.declared.fault.TableFault.TheVariants.{BadLine, BadTable}
use Rattle.wl_text.specs.TableText.{TableText, IsFirstBadLine}
use Rattle.wl_text.specs.Text.{WrittenInterface, interfaces_from}
use Rattle.wl_text.proofs.Texts.{text_lists, first_bad}
use Rattle.wl_sigs.specs.Broken.{Broken}
use Rattle.wl_sigs.specs.Extended.{extended}
use Rattle.wl_sigs.specs.Extending.{first_line_broken}
use Rattle.wl_sigs.specs.FirstLineBroken.{ExtendsRightly, IsFirstBrokenLine}
use Rattle.wl_sigs.specs.Outcome.{extended_unless, outcome_of, outcome}
use Rattle.wl_sigs.specs.Tables.{Interface}
use Rattle.wl_sigs.specs.Valid.{Valid}
use Rattle.wl_sigs.proofs.FirstLineWords.{first_line}
use Rattle.wl_sigs.proofs.ExtendedValid.{extends_rightly, extended_valid, valid_line_unbroken}

abbrev Told : List Interface → List ℕ → List Interface → Type 0
Told tables text all = (written : List WrittenInterface) × TableText text written × ExtendsRightly tables written
    × (extended tables written ≡ all) × Valid all

unbroken_told : (tables all : List Interface) (text : List ℕ) (written : List WrittenInterface) → Valid tables
    → TableText text written
    → (o : Option Broken) → first_line_broken tables written ≡ o → extended_unless tables written o ≡ Ok all
    → Told tables text all
unbroken_told tables all text written valid told None unbroken is =
    let same : extended tables written ≡ all = cc is in (
      written,
      told,
      extends_rightly tables written unbroken,
      same,
      subst Valid same (extended_valid tables written valid unbroken),
    )
unbroken_told tables all text written valid told (Some answer) broken is = cc is

read_told : (tables all : List Interface) (text : List ℕ) → Valid tables → (r : Result (List WrittenInterface) ℕ)
    → interfaces_from 1 (lines text) [] ≡ r → outcome_of tables r ≡ Ok all → Told tables text all
read_told tables all text valid (Ok written) read is =
    unbroken_told tables all text written valid ((text_lists text written).0 read)
    (first_line_broken tables written) refl is
read_told tables all text valid (Err n) read is = cc is

told_read : (tables all : List Interface) (text : List ℕ) → Valid tables → Told tables text all
    → outcome tables text ≡ Ok all
told_read tables all text valid told =
    let read : interfaces_from 1 (lines text) [] ≡ Ok told.0 = (text_lists text told.0).1 told.1 in
    let whole : Valid (extended tables told.0) = subst Valid (sym told.3) told.4 in
    ap (outcome_of tables) read
    ∙ ap (extended_unless tables told.0) (valid_line_unbroken tables told.0 valid told.2 whole) ∙ ap Ok told.3

pub texts_told : (tables all : List Interface) (text : List ℕ) → Valid tables
    → (outcome tables text ≡ Ok all) ↔ Told tables text all
texts_told tables all text valid = (
  read_told tables all text valid
      (interfaces_from 1 (lines text) []) refl,
  told_read tables all text valid,
)

unbroken_stands : (tables : List Interface) (written : List WrittenInterface) (n : ℕ) → (o : Option Broken)
    → extended_unless tables written o ≡ Err (BadLine n) → ⊥
unbroken_stands tables written n None is = cc is
unbroken_stands tables written n (Some answer) is = cc is

read_bad : (tables : List Interface) (text : List ℕ) (n : ℕ) → (r : Result (List WrittenInterface) ℕ)
    → interfaces_from 1 (lines text) [] ≡ r → outcome_of tables r ≡ Err (BadLine n) → IsFirstBadLine text n
read_bad tables text n (Ok written) read is = absurd (unbroken_stands tables written n (first_line_broken tables written) is)
read_bad tables text n (Err m) read is =
    let same : m ≡ n = cc is in
    (first_bad text n).0 (read ∙ ap Err same)

pub texts_bad : (tables : List Interface) (text : List ℕ) (n : ℕ)
    → (outcome tables text ≡ Err (BadLine n)) ↔ IsFirstBadLine text n
texts_bad tables text n = (
  read_bad tables text n (interfaces_from 1 (lines text) []) refl,
  λ bad. ap (outcome_of tables)
      ((first_bad text n).1 bad),
)

abbrev broken_of : ℕ → ℕ → Broken
broken_of line rule = record { line = line; rule = rule }

abbrev IsBroken : List Interface → List ℕ → ℕ → ℕ → Type 0
IsBroken tables text line rule = (written : List WrittenInterface) × TableText text written
    × IsFirstBrokenLine tables written (record { line = line; rule = rule })

broken_stands : (tables : List Interface) (text : List ℕ) (line rule : ℕ) (written : List WrittenInterface)
    → TableText text written
    → (o : Option Broken) → first_line_broken tables written ≡ o → extended_unless tables written o ≡ Err (BadTable line rule)
    → IsBroken tables text line rule
broken_stands tables text line rule written told None unbroken is = cc is
broken_stands tables text line rule written told (Some answer) broken is =
    let at : answer.line ≡ line = cc is in
    let breaks : answer.rule ≡ rule = cc is in
    let same : answer ≡ broken_of line rule = ap (λ (l : ℕ). broken_of l answer.rule) at
    ∙ ap (λ (r : ℕ). broken_of line r) breaks in (
      written,
      told,
      (first_line tables written (broken_of line rule)).0
          (broken ∙ ap (λ (b : Broken). Some b) same),
    )

read_broken : (tables : List Interface) (text : List ℕ) (line rule : ℕ) → (r : Result (List WrittenInterface) ℕ)
    → interfaces_from 1 (lines text) [] ≡ r → outcome_of tables r ≡ Err (BadTable line rule)
    → IsBroken tables text line rule
read_broken tables text line rule (Ok written) read is =
    broken_stands tables text line rule written ((text_lists text written).0 read) (first_line_broken tables written) refl is
read_broken tables text line rule (Err m) read is = cc is

broken_read : (tables : List Interface) (text : List ℕ) (line rule : ℕ) → IsBroken tables text line rule
    → outcome tables text ≡ Err (BadTable line rule)
broken_read tables text line rule is =
    let read : interfaces_from 1 (lines text) [] ≡ Ok is.0 = (text_lists text is.0).1 is.1 in
    let broken : first_line_broken tables is.0 ≡ Some (broken_of line rule) =
    (first_line tables is.0 (broken_of line rule)).1 is.2 in
    ap (outcome_of tables) read ∙ ap (extended_unless tables is.0) broken

pub texts_broken : (tables : List Interface) (text : List ℕ) (line rule : ℕ)
    → (outcome tables text ≡ Err (BadTable line rule)) ↔ IsBroken tables text line rule
texts_broken tables text line rule = (
  read_broken tables text line rule
      (interfaces_from 1 (lines text) []) refl,
  broken_read tables text line rule,
)
