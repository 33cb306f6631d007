-- Values that occur while a text is read.
use Rattle.std.specs.Prelude.{ℕ, List, [], Bool, Option, Some, None}
use Rattle.wl_text.specs.Lines.{words}
use Rattle.wl_text.specs.Text.{Tail}

-- the words that follow the first word of a line
abbrev pub words_behind : Option (List ℕ) → List (List ℕ)
words_behind None = []
words_behind (Some rest) = words rest

-- a tail without arguments
abbrev pub tail_of_ending : Bool × ℕ → Tail
tail_of_ending end = record { kinds = []; destroys = end.0; since = end.1 }
