-- The result of reading tables from a text.
use Rattle.std.specs.Prelude.{ℕ, List, [], Option, Some, None, Result, Ok, Err}
use Rattle.std.specs.Str.Lines.{lines}
use Rattle.wl_text.specs.declared.fault.TableFault.{TableFault}
use Rattle.wl_text.specs.declared.fault.TableFault.TheVariants.{BadLine, BadTable}
use Rattle.wl_sigs.specs.Tables.{Interface}
use Rattle.wl_text.specs.Text.{WrittenInterface, interfaces_from}
use Rattle.wl_sigs.specs.Broken.{Broken}
use Rattle.wl_sigs.specs.Extended.{extended}
use Rattle.wl_sigs.specs.Extending.{first_line_broken}

-- the tables extended by a text and followed by its interfaces, or the first line that breaks a
-- rule
abbrev pub extended_unless : List Interface → List WrittenInterface → Option Broken
    → Result (List Interface) TableFault
extended_unless tables written None = Ok (extended tables written)
extended_unless tables written (Some first) = Err (BadTable first.line first.rule)

abbrev pub outcome_of : List Interface → Result (List WrittenInterface) ℕ
    → Result (List Interface) TableFault
outcome_of tables (Err line) = Err (BadLine line)
outcome_of tables (Ok written) =
    extended_unless tables written (first_line_broken tables written)

-- The tables extended by a text and followed by its interfaces. If a line has no form, or is a
-- message before any interface, the result is the first such line. Otherwise, if a line breaks a
-- rule, it is the first such line and the lowest rule that the line breaks.
abbrev pub outcome : List Interface → List ℕ → Result (List Interface) TableFault
outcome tables text = outcome_of tables (interfaces_from 1 (lines text) [])
