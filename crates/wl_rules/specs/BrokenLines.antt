-- Broken lines in the form that the code uses.
use Rattle.std.specs.Prelude.{◌≡◌, ℕ, List, Bool, not, Option, Some, None}
use Rattle.wl_rules.specs.declared.rules.BrokenLine.{BrokenLine}
use Rattle.wl_rules.specs.declared.rules.Owner.{Owner}
use Rattle.wl_rules.specs.declared.side.Side.TheVariants.{Request, Event}
use Rattle.wl_rules.specs.Rules.{is_empty}
use Rattle.wl_rules.specs.Tables.{Interface}
use Rattle.wl_text.specs.Text.{WrittenInterface}
use Rattle.wl_rules.specs.Broken.{Broken, earlier}
use Rattle.wl_rules.specs.Extending.{added_side_broken}

-- what is kept about this interface for the rules of its messages
abbrev pub IsOwner : Owner → WrittenInterface → Type 0
IsOwner owner i = (i.version ≡ owner.version) × (is_empty i.requests ≡ not owner.has_requests)

-- the first broken line among the messages added to the interface at an index; none if nothing is
-- added to it
abbrev pub added_here : List Interface → (List ℕ → Option ℕ) → List Bool → ℕ → Interface
    → Option WrittenInterface → Option Broken
added_here tables place ended here i None = None
added_here tables place ended here i (Some more) =
    earlier (added_side_broken tables place ended here i more Request)
    (added_side_broken tables place ended here i more Event)

abbrev pub broken : BrokenLine → Broken
broken found = record { line = found.line; rule = found.rule }
