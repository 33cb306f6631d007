use Rattle.std.proofs.Common.{◌≡◌, ◌+◌, ◌≤◌, [], length}
use Rattle.std.specs.Str.Lines.{lines}
use Rattle.wl_text.specs.Text.{interfaces_from}
use Rattle.wl_text.proofs.reading.read_interfaces.Given as goal

abbrev pub invariant-lines : goal.invariant-lines
invariant-lines g l =
    (interfaces_from 1 (lines l.text) [] ≡ interfaces_from (l.number + 1) (lines l.rest) l.interfaces.items)
    × (l.number + length l.rest ≤ length l.text)

abbrev pub decreases-lines : goal.decreases-lines
decreases-lines g l = length l.rest
