-- What reading tables from a text finds, by its steps.
use Rattle.std.proofs.Common.{◌≡◌, List, Some, None, Option, refl, sym, ap, subst, ◌∙◌}
use Rattle.std.specs.Prelude.{option_map}
use Rattle.wl_text.specs.Text.{WrittenInterface}
use Rattle.wl_rules.specs.declared.rules.BrokenLine.{BrokenLine}
use Rattle.wl_sigs.specs.Tables.{Interface}
use Rattle.wl_sigs.specs.Valid.{Valid}
use Rattle.wl_sigs.specs.Broken.{Broken, earlier}
use Rattle.wl_sigs.specs.BrokenLines.{broken}
use Rattle.wl_sigs.specs.Extended.{Gathered, extended, whole_of}
use Rattle.wl_sigs.specs.Extending.{messages_or_declared_broken, first_line_broken}
use Rattle.wl_sigs.proofs.ExtendedValid.{extended_valid}

none_told : (found : Option BrokenLine) → ((answer : BrokenLine) → found ≡ Some answer → ⊥) → option_map broken found ≡ None
none_told None never = refl
none_told (Some answer) never = absurd (never answer refl)

-- if no line breaks a rule, the tables that the text gives are valid
pub still_valid : (tables : List Interface) (written : List WrittenInterface) (g : Gathered)
    (of_extensions of_others : Option Broken) (found : Option BrokenLine) → Valid tables
    → whole_of tables g ≡ extended tables written
    → earlier of_extensions (messages_or_declared_broken tables g) ≡ first_line_broken tables written
    → of_others ≡ messages_or_declared_broken tables g
    → option_map broken found ≡ earlier of_extensions of_others → ((answer : BrokenLine) → found ≡ Some answer → ⊥)
    → Valid (whole_of tables g)
still_valid tables written g of_extensions of_others found valid whole first others_are found_is never =
    let line : option_map broken found ≡ first_line_broken tables written =
    found_is ∙ ap (earlier of_extensions) others_are ∙ first in
    subst Valid (sym whole) (extended_valid tables written valid (sym line ∙ none_told found never))
