use Rattle.std.proofs.Common.{◌≡◌, ◌+◌, length}
use Rattle.std.specs.Prelude.{option_map, option_copied}
use Rattle.std.specs.Option.{option_map_or}
use Rattle.wl_text.specs.Text.{with_kinds, tail_of}
use Rattle.wl_text.specs.Reading.{words_behind}
use Rattle.wl_text.proofs.forms.tail_of.Given as goal

abbrev pub invariant-arguments : goal.invariant-arguments
invariant-arguments g l =
    tail_of (words_behind (option_copied l.fn.behind))
    ≡ option_map (with_kinds l.kinds.items) (tail_of (words_behind (option_copied l.behind)))

abbrev pub decreases-arguments : goal.decreases-arguments
decreases-arguments g l = option_map_or (λ text. 1 + length text.now) l.behind 0
