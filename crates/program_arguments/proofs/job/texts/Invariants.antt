use Rattle.std.proofs.Common.{◌≡◌, take}
use Rattle.std.specs.Prelude.{map, string_bytes}
use Rattle.program_arguments.proofs.job.texts.Given as goal

-- the words copied so far
abbrev pub invariant-words : goal.invariant-words
invariant-words l = map string_bytes l.copies.items ≡ map (λ word. word.now) (take l.word-index l.words)
