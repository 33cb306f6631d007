-- The last line printed for the session.
use Rattle.std.specs.Prelude.{ℕ, Bool, true, false, List, ◌++◌, codes}
use Rattle.std.specs.Fmt.{decimal}

-- whether both ends have the same objects
abbrev pub agreement : Bool → List ℕ
agreement true = codes "agree"
agreement false = codes "disagree"

abbrev pub agreement_line : Bool → ℕ → List ℕ
agreement_line agree objects =
    agreement agree ++ codes ": " ++ decimal objects ++ codes " objects\n"
