use Rattle.std.proofs.Common.{◌≡◌, ◌∙◌, Bool, true, false, List, Some, codes, refl, sym}
use Rattle.std.specs.Prelude.{bytes_eq}
use Rattle.std.proofs.lemmas.Slice.Eq.{bytes_eq-Decides}
use Rattle.clap.specs.Words.{Row, Text, first_of, found_of, rows_of}
use Rattle.clap.proofs.WalkLemmas.{first_value-rows}
use Rattle.program_arguments.specs.Asking.{IsSet}
use Rattle.program_arguments.proofs.job.is_set.Goals as goal

-- the word that was given is compared with that of a switch that was set
by_word : (name : Text) (rows : List Row) (word : Text) (same : Bool) → first_of name rows ≡ Some word
    → bytes_eq word (codes "true") ≡ same → IsSet name rows same
by_word name rows word true is same =
    let set : word ≡ codes "true" = (bytes_eq-Decides word (codes "true")).0 same in
    rw set at is
by_word name rows word false is same = λ set.
    let word_is : word ≡ codes "true" = cc (is, set) in
    let yes : bytes_eq word (codes "true") ≡ true = rw word_is refl in
    cc (same, yes)

pub returns-in-Some : goal.returns-in-Some
returns-in-Some c =
    let got = c.get_str.ensures ∙ first_value-rows (found_of c.args.matches.now) c.args.name.now in
    let some = sym got ∙ (rw c.in-Some.is refl) in
    by_word c.args.name.now (rows_of (found_of c.args.matches.now)) c.in-Some.word.now c.eq.result some (sym c.eq.ensures)

pub returns-in-None : goal.returns-in-None
returns-in-None c = λ set.
    let got = c.get_str.ensures ∙ first_value-rows (found_of c.args.matches.now) c.args.name.now in
    let none = rw c.in-None.is at got in
    cc (none, set)
