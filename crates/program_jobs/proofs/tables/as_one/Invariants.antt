use Rattle.std.proofs.Common.{◌≡◌, ◌++◌, take}
use Rattle.std.specs.List.{flat_map}
use Rattle.program_jobs.specs.Texts.{named_texts}
use Rattle.program_jobs.proofs.Texts.{after_feed}
use Rattle.program_jobs.proofs.tables.as_one.Given as goal

-- the first text, and the others joined so far
abbrev pub invariant-texts : goal.invariant-texts
invariant-texts g l = l.whole.items
    ≡ l.initial.whole.items ++ flat_map after_feed (named_texts (take l.text-index l.others))
